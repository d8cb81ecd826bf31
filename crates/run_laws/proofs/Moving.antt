-- Who is animated is there, whatever is played.
use Rattle.std.proofs.Common.{◌≡◌, refl, ℕ, Bool, true, false, Option, Some, None, List, [], ◌∷◌, filter, arith}
use Rattle.std.specs.Prelude.{not, ◌||◌, ◌==◌, IfSome}
use Rattle.std.proofs.lemmas.Bool.{not-false}
use Rattle.std.proofs.lemmas.Bool.Decides.{nat_tests}
use Rattle.std.proofs.lemmas.List.Folds.{list_any-append}
use Rattle.gui_base.specs.Refusing.{Test, first_of}
use Rattle.gui_base.specs.declared.Handle.{Handle}
use Rattle.gui_base.specs.declared.events.Action.{Action}
use Rattle.gui_base.specs.declared.events.Action.TheVariants as action
use Rattle.gui_base.specs.declared.events.EventKind.{EventKind}
use Rattle.gui_base.specs.declared.refusal.Refusal.{Refusal}
use Rattle.gui_base.specs.declared.words.State.{State}
use Rattle.play_defs.specs.Animation.{moves, forgotten}
use Rattle.play_defs.specs.Focus.{Groups, joined}
use Rattle.play_defs.specs.declared.Anim.{Anim}
use Rattle.scene_defs.specs.declared.Change.{Change}
use Rattle.scene_defs.specs.declared.Change.TheVariants as change
use Rattle.scene_defs.specs.Change.{answer_of, changed}
use Rattle.scene_defs.specs.Edits.{below}
use Rattle.scene_defs.specs.Scene.{Scene, is_there}
use Rattle.scene_defs.specs.Valid.{IsValid, IsChange, is_among}
use Rattle.scene_defs.proofs.Changes.{range_done}
use Rattle.scene_defs.proofs.Totals.{one_at}
use Rattle.scene_defs.proofs.Validity.{removed_sum, change_keeps_valid}
use Rattle.run_defs.specs.Animating.{is_animated}
use Rattle.run_defs.specs.declared.Command.{Command}
use Rattle.run_defs.specs.declared.Command.TheVariants as ask
use Rattle.run_defs.specs.Events.{asked, say, say_or_change}
use Rattle.run_defs.specs.Machine.{Machine}
use Rattle.run_defs.specs.Making.{make, make_by, put_state, with_groups, leave_group, without_handlers, without_targets, without_anims, forget, handles, not_there, made, note, attempt, attempt_by}
use Rattle.run_defs.specs.Play.{Rule, nothing, with, ◌⊳◌, ◌▷◌, each}
use Rattle.run_defs.specs.Step.{answer, gone, var_tests, full_for, is_command_in_range, rule_of, unless, step, IsCommand}
use Rattle.run_defs.proofs.Inputs.{any-filter, IsClosed, good_leave_group, good_join, good_rule}
use Rattle.run_defs.proofs.Playing.{good_put}
use Rattle.run_laws.specs.Animated.{AnimatedAreThere, FirstAnimatedAreThere, StepsKeepAnimated}
use Rattle.run_laws.proofs.Counting.{among-filter}
use Rattle.run_laws.proofs.Scenes.{none-goes, others-stay}

-- those of another object stay
forgotten-animated : (h k : ℕ) (anims : List Anim) → is_animated k (forgotten h anims) ≡ true → ((k == h) ≡ false) × (is_animated k anims ≡ true)
forgotten-animated h k [] is = cc
forgotten-animated h k (anim ∷ anims) is = (grind (arith, nat_tests, is, forgotten-animated h k anims), grind (arith, nat_tests, is, forgotten-animated h k anims))

-- a scene that is in order, in which those are there that are animated, save those that leave
record Stand (leaving : List ℕ) (m : Machine) : Type 0 where
  valid : IsValid m.scene
  there : (k : ℕ) → is_animated k m.anims ≡ true → (is_there m.scene k || is_among leaving k) ≡ true

module _ (leaving : List ℕ) where
  abbrev Keeps : Rule → Type 0
  Keeps rule = (m : Machine) → Stand leaving m → Stand leaving (rule m).machine

  keeps_nothing : Keeps nothing
  keeps_nothing m s = s

  keeps_with : (f : Machine → Machine) → ((m : Machine) → (f m).scene ≡ m.scene) → ((m : Machine) (k : ℕ) → is_animated k (f m).anims ≡ true → is_animated k m.anims ≡ true) → Keeps (with f)
  unfolding with
  keeps_with f same fewer m s = record { valid = rw (same m) s.valid; there = λ k is. rw (same m) (s.there k (fewer m k is)) }

  keeps_groups : (f : Groups → Groups) → Keeps (with_groups f)
  keeps_groups f = keeps_with (λ machine. record machine { groups = f machine.groups }) (λ m. refl) (λ m k is. is)

  keeps_then : (first second : Rule) → Keeps first → Keeps second → Keeps (first ▷ second)
  unfolding ◌▷◌ ◌⊳◌
  keeps_then first second h k m s = k (first m).machine (h m s)

  keeps_look : (f : Machine → Rule) → ((m : Machine) → Keeps (f m)) → Keeps (λ m. f m m)
  keeps_look f h m s = h m m s

  -- a change that removes none
  keeps_make : (change : Change) → IsChange change → ((scene : Scene) (k : ℕ) → removed_sum scene change (one_at k) ≡ 0) → Keeps (make change)
  unfolding make
  keeps_make change c none m s = by (answer_of m.scene change) where
    by : (reason : Option Refusal) → Stand leaving (make_by reason change m).machine
    by None = record {
      valid = change_keeps_valid m.scene change s.valid c;
      there = λ k is. grind (arith, s.there k is, none-goes m.scene change s.valid c (none m.scene) k);
    }
    by (Some refusal) = s

  keeps_put : (state : State) (on : Bool) (h : Handle) → Keeps (put_state state on h)
  keeps_put state on h = good_put Keeps keeps_nothing keeps_look state on h (keeps_make (change.State h state on) tt (λ scene k. refl))

  keeps_leave_group : (h : Handle) → Keeps (leave_group h)
  keeps_leave_group = good_leave_group Keeps keeps_then keeps_look keeps_nothing keeps_put (λ f count. keeps_groups f)

-- who leaves is not animated afterwards
lets_forget : (hs : List ℕ) (h : Handle) (m : Machine) → Stand (h.0 ∷ hs) m → Stand hs (forget h m).machine
unfolding forget with ◌▷◌ ◌⊳◌
lets_forget hs h m s = keeps_leave_group hs h (without_anims h (without_targets h (without_handlers h m))) (record {
  valid = s.valid;
  there = λ k is. let other = forgotten-animated h.0 k m.anims is in grind (arith, nat_tests, other.0, s.there k other.1);
})

-- all who leave are forgotten
all_forgotten : (hs : List ℕ) (m : Machine) → Stand hs m → Stand [] (each forget (handles hs) m).machine
unfolding each ◌▷◌ ◌⊳◌
all_forgotten [] m s = s
all_forgotten (h ∷ hs) m s = all_forgotten hs (forget (record { 0 = h }) m).machine (lets_forget hs (record { 0 = h }) m s)

-- Changes.

-- a delete, before those that it removes are forgotten
deleted_leave : (h : Handle) (m : Machine) → Stand [] m → Stand (not_there (changed m.scene (change.Delete h)) (below m.scene h.0)) (make (change.Delete h) m).machine
unfolding make
deleted_leave h m s = by (answer_of m.scene (change.Delete h)) refl where
  after : Scene
  after = changed m.scene (change.Delete h)

  by : (reason : Option Refusal) → answer_of m.scene (change.Delete h) ≡ reason → Stand (not_there after (below m.scene h.0)) (make_by reason (change.Delete h) m).machine
  by None done = record {
    valid = change_keeps_valid m.scene (change.Delete h) s.valid tt;
    there = λ k is. grind (arith, s.there k is, others-stay m.scene h s.valid done k, among-filter (λ h. not (is_there after h)) (below m.scene h.0) k);
  }
  by (Some refusal) e = record { valid = s.valid; there = λ k is. grind (arith, s.there k is) }

keeps_made : (change : Change) → IsChange change → Keeps [] (made change)
unfolding made each ◌▷◌ ◌⊳◌
keeps_made (change.Delete h) c m s =
    all_forgotten (not_there (changed m.scene (change.Delete h)) (below m.scene h.0)) (make (change.Delete h) m).machine (deleted_leave h m s)
keeps_made change c m s = keeps_make [] change c (λ scene k. refl) m s

keeps_attempt : (change : Change) → IsChange change → Keeps [] (attempt change)
unfolding attempt note
keeps_attempt change c m s = by (answer_of m.scene change) where
  by : (reason : Option Refusal) → Stand [] (attempt_by reason change m).machine
  by None = keeps_made change c m s
  by (Some refusal) = s

-- Events.
asked_is : (target : Handle) (a : Action) → IfSome (asked target a) IsChange
asked_is target action.Say = tt
asked_is target a = tt

keeps_asked : (kind : EventKind) (target current : Handle) (change : Option Change) → IfSome change IsChange → Keeps [] (say_or_change kind target current change)
unfolding say
keeps_asked kind target current None c m s = s
keeps_asked kind target current (Some change) c m s = keeps_attempt change c m s

keeps_closed : IsClosed (Keeps [])
keeps_closed = record {
  none = keeps_nothing [];
  next = keeps_then [];
  look = keeps_look [];
  aside = λ f is. keeps_with [] f is.scene is.anims;
  value = λ h n. keeps_make [] (change.Value h n) tt (λ scene k. refl);
  place = λ h x y. keeps_make [] (change.Pos h x y) tt (λ scene k. refl);
  scroll = λ h x y. keeps_make [] (change.Scroll h x y) tt (λ scene k. refl);
  size = λ h width height. keeps_make [] (change.Size h width height) tt (λ scene k. refl);
  state = λ h state on. keeps_make [] (change.State h state on) tt (λ scene k. refl);
  acted = λ kind target current a. keeps_asked kind target current (asked target a) (asked_is target a);
  left = keeps_leave_group [];
}

-- Commands.

-- the first test of a command that is done
first-fails : (t : Test) (ts : List Test) (later : Option Refusal) → first_of (t ∷ ts) later ≡ None → t.0 ≡ false
first-fails t ts later e = grind (arith, e)

rule_stands : (command : Command) (m : Machine) → IsCommand command → answer m command ≡ None → Stand [] m → Stand [] (rule_of command m).machine
unfolding with
rule_stands (ask.Change change) m c none s = keeps_made change c m s
rule_stands (ask.On h kind a) m c none s = record { valid = s.valid; there = s.there }
rule_stands (ask.Group id) m c none s = record { valid = s.valid; there = s.there }
rule_stands (ask.Join id h) m c none s = good_join (Keeps []) keeps_closed id h (keeps_groups [] (λ groups. joined groups id h)) m s
rule_stands (ask.Anim spec) m c none s =
    let on : is_there m.scene spec.h.0 ≡ true =
    not-false _ (first-fails (gone m spec.h) (var_tests m.scene spec.var spec.h) (full_for m (ask.Anim spec)) (range_done (is_command_in_range (ask.Anim spec)) _ none).1) in
    let test : Anim → Bool = λ anim. moves spec.h.0 spec.var anim in
    record {
      valid = s.valid;
      there = λ k is. grind (
        arith,
        nat_tests,
        on,
        is,
        s.there k,
        any-filter (λ (anim : Anim). anim.spec.h.0 == k) (λ anim. not (test anim)) m.anims,
        list_any-append (λ (anim : Anim). anim.spec.h.0 == k) (filter (λ anim. not (test anim)) m.anims) (record { spec = spec; started = m.time } ∷ []),
      );
    }
rule_stands command m c none s = good_rule (Keeps []) keeps_closed command tt m s

pub steps_keep_animated : StepsKeepAnimated
unfolding step
steps_keep_animated machine command v c there = by (answer machine command) refl where
  by : (reason : Option Refusal) → answer machine command ≡ reason → AnimatedAreThere (unless reason (rule_of command) machine).machine
  by None none = let s = rule_stands command machine c none (record { valid = v; there = λ k is. grind (arith, there k is) }) in λ k is. grind (arith, s.there k is)
  by (Some refusal) e = there

pub first_animated : FirstAnimatedAreThere
first_animated limits h is = cc
