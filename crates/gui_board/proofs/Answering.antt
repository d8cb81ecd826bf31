-- Commands against which nothing is.
use Rattle.std.proofs.Common.{◌≡◌, ◌∙◌, sym, ap, refl, ℕ, ◌-◌, Bool, true, false, List, [], ◌∷◌, length, sum_by, Result, Ok, Err, Option, Some, None, arith}
use Rattle.std.specs.Prelude.{◌==◌, nat_le, not, if◌then◌else◌, OnOk, is_some}
use Rattle.std.proofs.lemmas.Bool.{not-false}
use Rattle.std.proofs.lemmas.Bool.Decides.{nat_tests}
use Rattle.gui_base.specs.Refusing.{Test, first_of, Unknown, Taken}
use Rattle.gui_base.specs.declared.Handle.{Handle}
use Rattle.gui_base.specs.declared.limits.Pool.{Pool}
use Rattle.gui_base.specs.declared.refusal.Refusal.{Refusal}
use Rattle.gui_base.specs.declared.refusal.Refusal.TheVariants.{Range, Full}
use Rattle.gui_event.specs.Groups.{FocusGroups, group_answer}
use Rattle.gui_event.specs.Handlers.{Handlers, add_answer}
use Rattle.play_defs.specs.Focus.{has_group, group_of}
use Rattle.run_defs.specs.Machine.{Machine}
use Rattle.run_defs.specs.Step.{full_by, answer, gone, is_command_in_range, tests_of}
use Rattle.run_defs.specs.declared.Command.TheVariants as ask
use Rattle.scene_defs.specs.Scene.{is_there}

-- a command that is done: its numbers are in range, and each of its tests fails
pub in_range : (b : Bool) (o : Option Refusal) → (if b then o else Some Range) ≡ None → o ≡ None
in_range true o e = e
in_range false o e = cc

pub first_fails : (t : Test) (ts : List Test) (later : Option Refusal) → first_of (t ∷ ts) later ≡ None → (t.0 ≡ false) × (first_of ts later ≡ None)
first_fails (b, reason) ts later e = by b e where
  by : (c : Bool) → first_of ((c, reason) ∷ ts) later ≡ None → (c ≡ false) × (first_of ts later ≡ None)
  by true f = cc
  by false f = (refl, f)

pub room : (slots used : ℕ) (pool : Pool) → full_by slots used pool ≡ None → (slots - used == 0) ≡ false
room slots used pool e = by (nat_le slots used) refl e where
  by : (b : Bool) → nat_le slots used ≡ b → full_by slots used pool ≡ None → (slots - used == 0) ≡ false
  by true f g = absurd (some_none (sym (ap (λ (c : Bool). if c then Some (Full pool) else None) f) ∙ g)) where
    some_none : {A : Type 0} {x : A} → Some x ≡ None → ⊥
    some_none k = cc
  by false f g = grind (arith, nat_tests, f)

-- what a call leaves that is not refused
pub ok_leaves : {E P : Type 0} (r s : Result (Unit {0}) E) → r ≡ s → s ≡ Ok tt → OnOk r P → P
ok_leaves (Ok v) s e f h = h
ok_leaves (Err x) s e f h = cc

pub handler_left : (s t : Handlers) (r : Result (Unit {0}) Refusal) (slots : ℕ) (pool : Pool) {P : Type 0} → s.size ≡ slots → full_by slots (sum_by length s.lists) pool ≡ None → r ≡ add_answer s → OnOk r P → P
handler_left s t r slots pool same e answer left =
    let few = room s.size (sum_by length s.lists) pool (ap (λ (n : ℕ). full_by n (sum_by length s.lists) pool) same ∙ e) in
    ok_leaves r (add_answer s) answer (rw few refl) left

pub group_left : (s t : FocusGroups) (id : ℕ) (r : Result (Unit {0}) Refusal) (slots : ℕ) (pool : Pool) {P : Type 0} → s.size ≡ slots → has_group s.all id ≡ false → full_by slots (length s.all.groups) pool ≡ None → r ≡ group_answer s id → OnOk r P → P
group_left s t id r slots pool same new e answer left =
    let few = room s.size (length s.all.groups) pool (ap (λ (n : ℕ). full_by n (length s.all.groups) pool) same ∙ e) in
    ok_leaves r (group_answer s id) answer (rw (new, few) refl) left

none_by : (o : Option ℕ) → is_some o ≡ false → o ≡ None
none_by None e = refl
none_by (Some n) e = cc

-- an object that may join a group is there and in none
pub may_join : (machine : Machine) (id : ℕ) (h : Handle) → answer machine (ask.Join id h) ≡ None → (is_there machine.scene h.0 ≡ true) × (group_of machine.groups h ≡ None)
may_join machine id h e =
    let taken : Test = (is_some (group_of machine.groups h), Taken) in
    let tests = in_range (is_command_in_range (ask.Join id h)) (first_of (tests_of machine (ask.Join id h)) None) e in
    let one = first_fails (not (has_group machine.groups id), Unknown) (gone machine h ∷ taken ∷ []) None tests in
    let two = first_fails (gone machine h) (taken ∷ []) None one.1 in
    let three = first_fails taken [] None two.1 in
    (not-false _ two.0, none_by _ three.0)
