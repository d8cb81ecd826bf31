-- What a contract sees of `Handlers`, what its calls answer and what they leave.
use Rattle.std.specs.Prelude.{ℕ, ◌-◌, ◌==◌, if◌then◌else◌, List, length, sum_by, Result, Ok, Err}
use Rattle.gui_base.specs.declared.events.Action.{Action}
use Rattle.gui_base.specs.declared.events.EventKind.{EventKind}
use Rattle.gui_base.specs.declared.limits.Pool.TheVariants.{Handlers as HandlerSlots}
use Rattle.gui_base.specs.declared.refusal.Refusal.{Refusal}
use Rattle.gui_base.specs.declared.refusal.Refusal.TheVariants.{Full}
use Rattle.play_defs.specs.declared.Handler.{Handler}
use Rattle.play_defs.specs.Handlers as lists

pub record Handlers : Type 0 where
  -- the handlers of each object, by handle
  pub lists : List (List Handler)
  -- how many fit in all
  pub size : ℕ

abbrev pub spare : Handlers → ℕ
spare s = s.size - sum_by length s.lists

abbrev pub add_answer : Handlers → Result (Unit {0}) Refusal
add_answer s = if spare s == 0 then Err (Full HandlerSlots) else Ok tt

abbrev pub with_handler : Handlers → ℕ → EventKind → Action → Handlers
with_handler s h kind action = record s { lists = lists.with_handler s.lists h kind action }

abbrev pub without_kind : Handlers → ℕ → EventKind → Handlers
without_kind s h kind = record s { lists = lists.without_kind s.lists h kind }

abbrev pub forgotten : Handlers → ℕ → Handlers
forgotten s h = record s { lists = lists.forgotten s.lists h }
