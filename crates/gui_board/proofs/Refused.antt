-- What is asked of an animation before it is started or stopped.
use Rattle.std.proofs.Common.{◌≡◌, ◌∙◌, ap, subst, refl, ℕ, Bool, true, false, Option, Some, None, List, [], ◌∷◌, length, Ok}
use Rattle.std.specs.Prelude.{if◌then◌else◌, not}
use Rattle.std.proofs.lemmas.Bool.{not-false}
use Rattle.gui_anim.specs.Anims.{Anims, start_answer}
use Rattle.gui_base.specs.Refusing.{Test, first_of, Unknown}
use Rattle.gui_base.specs.declared.Handle.{Handle}
use Rattle.gui_base.specs.declared.events.Var.{Var}
use Rattle.gui_base.specs.declared.limits.Pool.TheVariants.{Anims as AnimSlots}
use Rattle.gui_base.specs.declared.refusal.Refusal.{Refusal}
use Rattle.gui_base.specs.declared.refusal.Refusal.TheVariants.{Range}
use Rattle.play_defs.specs.Animation.{IsAnim, is_moved}
use Rattle.play_defs.specs.declared.Anim.{Anim}
use Rattle.play_defs.specs.declared.AnimSpec.{AnimSpec}
use Rattle.run_defs.specs.Machine.{Machine}
use Rattle.run_defs.specs.Step.{answer, full_by, full_for, gone, is_anim_in_range, is_command_in_range, tests_of}
use Rattle.run_defs.specs.declared.Command.TheVariants as ask
use Rattle.run_defs.proofs.Anims.{anim-is}
use Rattle.gui_board.proofs.Answering.{first_fails, in_range, room}

-- a command against which nothing is has room
pub later_fails : (ts : List Test) (later : Option Refusal) → first_of ts later ≡ None → later ≡ None
later_fails [] later e = e
later_fails ((true, reason) ∷ ts) later e = cc
later_fails ((false, reason) ∷ ts) later e = later_fails ts later e

range_holds : (b : Bool) (o : Option Refusal) → (if b then o else Some Range) ≡ None → b ≡ true
range_holds true o e = refl
range_holds false o e = cc

-- an animation against which nothing is has its numbers in range
pub may_start : (machine : Machine) (spec : AnimSpec) → answer machine (ask.Anim spec) ≡ None → IsAnim spec
may_start machine spec e =
    anim-is spec (range_holds (is_anim_in_range spec) (first_of (tests_of machine (ask.Anim spec)) (full_for machine (ask.Anim spec))) e)

-- and there is room for it, or it replaces one
started_by : (s : Anims) (spec : AnimSpec) (slots : ℕ) → s.size ≡ slots → (if is_moved spec.h.0 spec.var s.running then None else full_by slots (length s.running) AnimSlots) ≡ None → start_answer s spec.h.0 spec.var ≡ Ok tt
started_by s spec slots same e = by (is_moved spec.h.0 spec.var s.running) refl where
  by : (b : Bool) → is_moved spec.h.0 spec.var s.running ≡ b → start_answer s spec.h.0 spec.var ≡ Ok tt
  by true moved = rw moved refl
  by false moved =
      let few = room s.size (length s.running) AnimSlots (ap (λ (n : ℕ). full_by n (length s.running) AnimSlots) same ∙ (rw moved at e)) in
      rw (moved, few) refl

pub may_be_started : (machine : Machine) (s : Anims) (spec : AnimSpec) → machine.anims ≡ s.running → s.size ≡ machine.scene.limits.anims → answer machine (ask.Anim spec) ≡ None → start_answer s spec.h.0 spec.var ≡ Ok tt
may_be_started machine s spec runs same e =
    let tests = in_range (is_anim_in_range spec) (first_of (tests_of machine (ask.Anim spec)) (full_for machine (ask.Anim spec))) e in
    let full = later_fails (tests_of machine (ask.Anim spec)) (full_for machine (ask.Anim spec)) tests in
    started_by s spec machine.scene.limits.anims same
    (subst (λ (anims : List Anim). (if is_moved spec.h.0 spec.var anims then None else full_by machine.scene.limits.anims (length anims) AnimSlots) ≡ None) runs full)

-- an animation that may be stopped runs
pub may_be_stopped : (machine : Machine) (h : Handle) (var : Var) → answer machine (ask.Stop h var) ≡ None → is_moved h.0 var machine.anims ≡ true
may_be_stopped machine h var e =
    let still : Test = (not (is_moved h.0 var machine.anims), Unknown) in
    let tests = in_range (is_command_in_range (ask.Stop h var)) (first_of (tests_of machine (ask.Stop h var)) None) e in
    let one = first_fails (gone machine h) (still ∷ []) None tests in
    let two = first_fails still [] None one.1 in
    not-false _ two.0
