-- A change, with what goes with the objects that it removes.
use Rattle.std.proofs.Common.{◌≡◌, ◌∙◌, sym, ap, subst, refl, ℕ, Bool, true, false, ◌||◌, Option, Some, None, Result, Ok, Err, List, [], ◌∷◌, length, take, get_or, ◌<◌, ◌≤◌, ◌+◌, arith}
use Rattle.std.specs.Prelude.{OnErr}
use Rattle.std.proofs.lemmas.List.{length-map}
use Rattle.gui_base.specs.Refusing.{result_of}
use Rattle.gui_base.specs.declared.Handle.{Handle}
use Rattle.gui_base.specs.declared.refusal.Refusal.{Refusal}
use Rattle.gui_change.specs.Canvas.{scene_in, removed_in}
use Rattle.gui_damage.specs.Adding.{AddsAll}
use Rattle.gui_damage.specs.Pending.{Pending}
use Rattle.gui_store.specs.Removed.{removed_after, removed_by}
use Rattle.gui_tree.specs.Handles.{numbers}
use Rattle.run_defs.specs.Making.{make, make_by, made, removed, handles, forget, leave_group, note, attempt, attempt_by, refused_line}
use Rattle.run_defs.specs.Making.{without_anims, without_handlers, without_targets}
use Rattle.run_defs.specs.Machine.{Machine}
use Rattle.run_defs.specs.Making.{removed_by as removed_of}
use Rattle.run_defs.specs.Play.{only, nothing, with, ◌▷◌, ◌⊳◌, each}
use Rattle.run_laws.proofs.Scenes.{removes_all_below}
use Rattle.scene_defs.specs.declared.Change.{Change}
use Rattle.scene_defs.specs.declared.Change.TheVariants as kind
use Rattle.scene_defs.specs.Change.{answer_of, changed}
use Rattle.scene_defs.specs.Deeds.{deleted}
use Rattle.scene_defs.specs.Scene.{Scene}
use Rattle.scene_defs.specs.Valid.{IsValid}
use Rattle.gui_board.specs.Boards.{machine_of, stage, Quiet}
use Rattle.gui_board.specs.Stages.{Stage, Played}
use Rattle.gui_board.specs.Writing.{WritesBy}
use Rattle.gui_board.specs.declared.board.Board.{Board}
use Rattle.gui_board.proofs.Adding.{adds_nothing}
use Rattle.gui_board.proofs.Boards.{played_with, quiet_nothing, quiet_then}
use Rattle.gui_board.proofs.Plays.{played_then, played_step, played_whole}
use Rattle.gui_board.proofs.Writes.{writes_nothing}

-- a change that deletes nothing leaves those that were removed last
pub removed_stay : (answer : Option Refusal) (before : List ℕ) (scene : Scene) (change : Change) → removed_after before scene change ≡ before → removed_by answer before scene change ≡ before
removed_stay None before scene change e = e
removed_stay (Some refusal) before scene change e = refl

pub not_deleted : (change : Change) → ((h : Handle) → change ≡ kind.Delete h → ⊥) → deleted change ≡ None
not_deleted (kind.Delete h) other = absurd (other h refl)
not_deleted change other = refl

-- what an answer tells
pub answer_none : (answer : Option Refusal) (r : Result (Unit {0}) Refusal) (u : Unit {0}) → r ≡ result_of answer → r ≡ Ok u → answer ≡ None
answer_none None r u is e = refl
answer_none (Some why) r u is e = cc

pub answer_some : (answer : Option Refusal) (r : Result (Unit {0}) Refusal) (why : Refusal) → r ≡ result_of answer → r ≡ Err why → answer ≡ Some why
answer_some None r why is e = cc
answer_some (Some other) r why is e = let same : other ≡ why = cc in ap (λ (w : Refusal). Some w) same

pub on_err_any : {P : Type 0} (r : Result (Unit {0}) Refusal) → P → OnErr r P
on_err_any (Ok u) p = tt
on_err_any (Err why) p = p

-- a change that is refused does nothing
pub refused_make : (a b : Board) (change : Change) (refusal : Refusal) → answer_of (scene_in a.canvas) change ≡ Some refusal → Quiet a b (make change) → Quiet a b nothing
unfolding make
refused_make a b change refusal e h log = subst (λ (answer : Option Refusal). Played (stage a log) (stage b log) (make_by answer change (machine_of a))) e (h log)

pub made_plain : (a b : Board) (change : Change) → deleted change ≡ None → Quiet a b (make change) → Quiet a b (made change)
unfolding made each
made_plain a b change none h = quiet_then a b b (make change) (each forget (removed (scene_in a.canvas) change)) h last where
  last : Quiet b b (each forget (removed (scene_in a.canvas) change))
  last = subst (λ (d : Option Handle). Quiet b b (each forget (removed_of (scene_in a.canvas) (changed (scene_in a.canvas) change) d))) (sym none) (quiet_nothing b)

pub made_delete : (a b c : Board) (change : Change) (h : Handle) → change ≡ kind.Delete h → IsValid (scene_in a.canvas) → answer_of (scene_in a.canvas) change ≡ None → Quiet a b (make change) →
    removed_in b.canvas ≡ removed_by (answer_of (scene_in a.canvas) change) (removed_in a.canvas) (scene_in a.canvas) change →
    Quiet b c (each forget (handles (removed_in b.canvas))) → Quiet a c (made change)
unfolding made
made_delete a b c change h is valid none changes gone forgotten =
    quiet_then a b c (make change) (each forget (removed (scene_in a.canvas) change)) changes (subst (λ (hs : List Handle). Quiet b c (each forget hs)) same forgotten) where
      listed : removed_in b.canvas ≡ removed_after (removed_in a.canvas) (scene_in a.canvas) (kind.Delete h)
      listed =
          gone ∙ ap (λ (answer : Option Refusal). removed_by answer (removed_in a.canvas) (scene_in a.canvas) change) none
          ∙ ap (removed_after (removed_in a.canvas) (scene_in a.canvas)) is

      same : handles (removed_in b.canvas) ≡ removed (scene_in a.canvas) change
      same =
          ap handles listed
          ∙ sym (removes_all_below (scene_in a.canvas) h valid (subst (λ (asked : Change). answer_of (scene_in a.canvas) asked ≡ None) is none))
          ∙ ap (removed (scene_in a.canvas)) (sym is)

-- An object is forgotten.

-- another machine with the same scene, as a rule
quiet_with : (a : Stage) (f : Machine → Machine) → (f a.machine).scene ≡ a.machine.scene → Played a (record a { machine = f a.machine }) (with f a.machine)
quiet_with a f scene = played_with a (record a { machine = f a.machine }) f refl scene refl (writes_nothing a.cut a.log) refl

-- what goes with an object: all but its place in its group, and then that
pub forgets : (a b c : Stage) (h : Handle) → Played b c (leave_group h b.machine) → b ≡ record a { machine = without_anims h (without_targets h (without_handlers h a.machine)) } → Played a c (forget h a.machine)
unfolding forget
forgets a b c h last e =
    played_then a b c (with (without_handlers h) ▷ with (without_targets h) ▷ with (without_anims h)) (leave_group h)
    (subst (λ (s : Stage). Played a s ((with (without_handlers h) ▷ with (without_targets h) ▷ with (without_anims h)) a.machine)) (sym e) three) last where
      one : Stage
      one = record a { machine = without_handlers h a.machine }

      two : Stage
      two = record a { machine = without_targets h one.machine }

      gone : Stage
      gone = record a { machine = without_anims h two.machine }

      three : Played a gone ((with (without_handlers h) ▷ with (without_targets h) ▷ with (without_anims h)) a.machine)
      three =
          played_then a two gone (with (without_handlers h) ▷ with (without_targets h)) (with (without_anims h))
          (played_then a one two (with (without_handlers h)) (with (without_targets h)) (quiet_with a (without_handlers h) refl) (quiet_with one (without_targets h) refl))
          (quiet_with two (without_anims h) refl)

-- Objects are forgotten in turn.

listed : (hs : List Handle) → handles (numbers hs) ≡ hs
listed [] = refl
listed (h ∷ hs) = ap (λ (ks : List Handle). h ∷ ks) (listed hs)

pub list_length : (hs : List Handle) (gone : List ℕ) → numbers hs ≡ gone → length hs ≡ length gone
list_length hs gone e = sym (length-map hs (λ (h : Handle). h.0)) ∙ ap (λ (ns : List ℕ). length ns) e

handle_count : (gone : List ℕ) → length (handles gone) ≡ length gone
handle_count gone = length-map gone _

pub forgot_more : (a b c : Stage) (gone : List ℕ) (hs : List Handle) (i : ℕ) (d : Handle) → numbers hs ≡ gone → i < length gone → Played a b (each forget (take i (handles gone)) a.machine) →
    Played b c (forget (get_or hs i d) b.machine) → Played a c (each forget (take (i + 1) (handles gone)) a.machine)
forgot_more a b c gone hs i d e within done next =
    let same : hs ≡ handles gone = sym (listed hs) ∙ ap handles e in
    played_step a b c forget (handles gone) i d (omega (arith, handle_count gone)) done (subst (λ (ks : List Handle). Played b c (forget (get_or ks i d) b.machine)) same next)

pub forgot_all : (a b : Stage) (gone : List ℕ) (i : ℕ) → length gone ≤ i → Played a b (each forget (take i (handles gone)) a.machine) → Played a b (each forget (handles gone) a.machine)
forgot_all a b gone i past done = played_whole a b forget (handles gone) i (omega (arith, handle_count gone)) done

or_true : (b : Bool) → true ≡ (b || true)
or_true true = refl
or_true false = refl

-- the line that tells of a refusal is written
pub played_note : (old new : Stage) (refusal : Refusal) → new.machine ≡ old.machine → new.pending ≡ old.pending → WritesBy old.cut new.cut old.log new.log (refused_line refusal) → new.noted ≡ true →
    Played old new (note refusal old.machine)
unfolding note
played_note old new refusal machine pending lines noted = record {
  machine = machine;
  scene = refl;
  owed = λ is. subst (λ (p : Pending). AddsAll old.pending p []) (sym pending) (adds_nothing old.pending is);
  lines = lines;
  noted = noted ∙ or_true old.noted;
}

pub attempt_made : (a b : Stage) (change : Change) → answer_of a.machine.scene change ≡ None → Played a b (made change a.machine) → Played a b (attempt change a.machine)
unfolding attempt
attempt_made a b change e h = subst (λ (answer : Option Refusal). Played a b (attempt_by answer change a.machine)) (sym e) h

pub attempt_noted : (a b c : Stage) (change : Change) (refusal : Refusal) → answer_of a.machine.scene change ≡ Some refusal → Played a b (only a.machine) → Played b c (note refusal b.machine) → Played a c (attempt change a.machine)
unfolding attempt note ◌▷◌ ◌⊳◌
attempt_noted a b c change refusal e h k =
    subst (λ (answer : Option Refusal). Played a c (attempt_by answer change a.machine)) (sym e) (played_then a b c nothing (note refusal) h k)
