-- What a contract sees of `Anims`, what its calls answer and what they leave.
use Rattle.std.specs.Prelude.{ℕ, ◌-◌, ◌==◌, if◌then◌else◌, List, length, Result, Ok, Err}
use Rattle.gui_base.specs.declared.events.Var.{Var}
use Rattle.gui_base.specs.declared.limits.Pool.TheVariants.{Anims as AnimSlots}
use Rattle.gui_base.specs.declared.refusal.Refusal.{Refusal}
use Rattle.gui_base.specs.declared.refusal.Refusal.TheVariants.{Unknown, Full}
use Rattle.play_defs.specs.declared.Anim.{Anim}
use Rattle.play_defs.specs.declared.AnimSpec.{AnimSpec}
use Rattle.play_defs.specs.Animation.{is_moved, stopped, started, forgotten, lasting}

pub record Anims : Type 0 where
  -- in the order of starting
  pub running : List Anim
  -- how many fit in all
  pub size : ℕ

abbrev pub spare : Anims → ℕ
spare s = s.size - length s.running

abbrev pub Answer : Type 0
Answer = Result (Unit {0}) Refusal

-- one that replaces another needs no room
abbrev pub start_answer : Anims → ℕ → Var → Answer
start_answer s h var =
    if is_moved h var s.running then Ok tt
    else if spare s == 0 then Err (Full AnimSlots)
    else Ok tt

abbrev pub with_started : Anims → AnimSpec → ℕ → Anims
with_started s spec now = record s { running = started spec now s.running }

abbrev pub stop_answer : Anims → ℕ → Var → Answer
stop_answer s h var = if is_moved h var s.running then Ok tt else Err Unknown

abbrev pub with_stopped : Anims → ℕ → Var → Anims
with_stopped s h var = record s { running = stopped h var s.running }

abbrev pub with_forgotten : Anims → ℕ → Anims
with_forgotten s h = record s { running = forgotten h s.running }

abbrev pub with_lasting : Anims → ℕ → Anims
with_lasting s now = record s { running = lasting now s.running }

-- an animation and the time of its start
abbrev pub as_pair : Anim → AnimSpec × ℕ
as_pair anim = (anim.spec, anim.started)
