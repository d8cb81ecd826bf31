-- What a machine holds on to goes on being there, whatever is played.
use Rattle.std.proofs.Common.{◌≡◌, ap, sym, subst, refl, ℕ, zero, suc, replicate, Bool, true, false, Option, Some, None, option_map, find, List, [], ◌∷◌, ◌++◌, map, filter, reverse, arith, inl, inr}
use Rattle.std.specs.Prelude.{not, ◌||◌, ◌==◌, IfSome, if◌then◌else◌, ℤ}
use Rattle.std.specs.List.{AllByRecursion}
use Rattle.std.proofs.lemmas.Bool.{cases_Bool, not-false}
use Rattle.std.proofs.lemmas.Bool.Decides.{nat_tests}
use Rattle.gui_base.specs.Forest.{Forest, Empty, Tree, has, has_by, path_by}
use Rattle.gui_base.specs.Refusing.{Test, first_of, refusal_of}
use Rattle.gui_base.specs.declared.Handle.{Handle}
use Rattle.gui_base.specs.declared.events.EventKind.{EventKind}
use Rattle.gui_base.specs.declared.events.EventKind.TheVariants as event
use Rattle.gui_base.specs.declared.refusal.Refusal.{Refusal}
use Rattle.gui_base.specs.declared.words.State.{State}
use Rattle.gui_base.specs.declared.words.State.TheVariants.{Focused, Scrolled}
use Rattle.play_defs.specs.Focus.{Groups, group_at, group_of, focused_in, is_it, left, with_focused, with_editing, joined, next_member, is_object}
use Rattle.play_defs.specs.Handlers.{handlers_of, of_other_kinds, with_handlers, no_handlers}
use Rattle.play_defs.specs.declared.Anim.{Anim}
use Rattle.play_defs.specs.declared.Drag.{Drag}
use Rattle.play_defs.specs.declared.Group.{Group}
use Rattle.play_defs.specs.declared.Handler.{Handler}
use Rattle.play_defs.specs.declared.Member.{Member}
use Rattle.play_defs.specs.declared.PointerReading.{PointerReading}
use Rattle.play_defs.specs.declared.Scrolling.{Scrolling}
use Rattle.scene_defs.specs.declared.Change.{Change}
use Rattle.scene_defs.specs.declared.Change.TheVariants as change
use Rattle.scene_defs.specs.declared.Row.{Row}
use Rattle.scene_defs.specs.Change.{answer_of, changed}
use Rattle.scene_defs.specs.Edits.{below}
use Rattle.scene_defs.specs.Scene.{Object, Scene, handles_of, is_at, is_there, object_by, object_at, path_at, row_at, row_of}
use Rattle.scene_defs.specs.Shown.{Seen, shown}
use Rattle.scene_defs.specs.Valid.{IsValid, IsChange, is_among, stand_once}
use Rattle.scene_defs.proofs.Assets.{once-append}
use Rattle.scene_defs.proofs.Changes.{range_done, tests-fail}
use Rattle.scene_defs.proofs.Totals.{one_at}
use Rattle.scene_defs.proofs.Validity.{removed_sum, change_keeps_valid}
use Rattle.run_defs.specs.declared.Command.{Command}
use Rattle.run_defs.specs.declared.Command.TheVariants as ask
use Rattle.run_defs.specs.Devices.{hit_by, pointer_at, press_pointer, focused_at, keypad_at, press_keypad, encoder_at, press_encoder}
use Rattle.run_defs.specs.Dragging.{begin, begin_on, can_scroll, goes_down, may_scroll, scrolled_from, scrolls}
use Rattle.run_defs.specs.Events.{asked, say, say_or_change, send_there}
use Rattle.run_defs.specs.Focusing.{unfocus, focus_taken, hand_over, move_from, move_focus, has_focus, focus_by, focus, first_focus, join, next_to_focus, step_focus}
use Rattle.run_defs.specs.Machine.{Machine}
use Rattle.run_defs.specs.Making.{make, make_by, put_state, with_groups, has_focus_of, is_usable, heir, pass_on, leave_from, leave_group, without_handlers, without_targets, without_anims, unscrolled, forget, handles, not_there, made, note, attempt, attempt_by}
use Rattle.run_defs.specs.Play.{Rule, nothing, with, ◌⊳◌, ◌▷◌, each, aimed}
use Rattle.run_defs.specs.Pointing.{hit, is_hit, seen_handle}
use Rattle.run_defs.specs.Reactions.{press}
use Rattle.run_defs.specs.Step.{answer, full_for, gone, tests_of, is_command_in_range, rule_of, unless, step, IsCommand}
use Rattle.run_defs.proofs.Playing.{Standing, seen_of, IsSteady, IsPlayed, good_put, good_aimed, good_send_there, good_unfocus, good_refocus, good_press, played_rule}
use Rattle.run_laws.specs.Held.{FocusesMember, IsThereIfAny, AreHeld, FirstAreHeld, StepsKeepHeld}
use Rattle.run_laws.specs.Members.{member_handles, AreJoined}
use Rattle.run_laws.proofs.Counting.{among-append, among-filter, once-filter}
use Rattle.run_laws.proofs.Focusing.{found_passes, Focuses, editing_focuses, taken_focuses, focused_focuses, group_focuses, joined_focuses, joins, leave_focuses, heir_stays, next_is_member, previous_is_member}
use Rattle.run_laws.proofs.Members.{in_none, left-handles, other_than, joined-handles, asked_is, is_none}
use Rattle.run_laws.proofs.Scenes.{none-goes, others-stay}

-- Who is there.

-- an object with a row is there
row_there : (trees : Forest Object) (h : ℕ) (object : Object) → object_by (is_at h) trees ≡ Some object → has (handles_of trees) h ≡ true
row_there Empty h object is = cc
row_there (Tree first cs rest) h object is = by (first.handle == h) (has_by (is_at h) cs) is (row_there cs h object) (row_there rest h object) where
  by : (one inside : Bool) → (if one then Some first else (if inside then object_by (is_at h) cs else object_by (is_at h) rest)) ≡ Some object →
      (object_by (is_at h) cs ≡ Some object → has (handles_of cs) h ≡ true) → (object_by (is_at h) rest ≡ Some object → has (handles_of rest) h ≡ true) →
      (one || (has (handles_of cs) h || has (handles_of rest) h)) ≡ true
  by true inside e below beside = refl
  by false true e below beside = grind (arith, below e)
  by false false e below beside = grind (arith, beside e)

flagged_there : (scene : Scene) (h : ℕ) → IfSome (row_at scene h) (λ row. is_there scene h ≡ true)
flagged_there scene h = by (object_at scene h) refl where
  by : (found : Option Object) → object_at scene h ≡ found → IfSome (option_map row_of found) (λ row. is_there scene h ≡ true)
  by None e = tt
  by (Some object) e = row_there scene.trees h object e

-- what a point hits is there
hit_there : (scene : Scene) (x y : ℤ) → IsThereIfAny scene (hit scene x y)
unfolding hit
hit_there scene x y = by (find (is_hit scene x y) (reverse (shown scene))) (found_passes (is_hit scene x y) (λ s. Unit {0}) (reverse (shown scene)) (all (reverse (shown scene)))) where
  all : (xs : List Seen) → AllByRecursion (λ (s : Seen). Unit {0}) xs
  all [] = tt
  all (x ∷ xs) = (tt, all xs)

  by_row : (s : Seen) (row : Option Row) → IfSome row (λ r. is_there scene s.handle ≡ true) → is_hit scene x y s ≡ true → row_at scene s.handle ≡ row → is_there scene s.handle ≡ true
  by_row s None one hits e = grind (arith, hits, e)
  by_row s (Some row) one hits e = one

  by : (found : Option Seen) → IfSome found (λ s. Unit {0} × (is_hit scene x y s ≡ true)) → IsThereIfAny scene (option_map seen_handle found)
  by None one = tt
  by (Some s) one = by_row s (row_at scene s.handle) (flagged_there scene s.handle) one.1 refl

hit_by_there : (at : Option PointerReading) (scene : Scene) → IsThereIfAny scene (hit_by at scene)
hit_by_there None scene = tt
hit_by_there (Some reading) scene = hit_there scene reading.x reading.y

-- the objects of a path are there
abbrev IsIn : Forest Object → Object → Type 0
IsIn trees object = has (handles_of trees) object.handle ≡ true

path_in : (test : Object → Bool) (trees : Forest Object) (above : List Object) (part : Forest Object) → ((k : ℕ) → has (handles_of part) k ≡ true → has (handles_of trees) k ≡ true) →
    AllByRecursion (IsIn trees) above → AllByRecursion (IsIn trees) (path_by test above part)
path_in test trees above Empty within all = tt
path_in test trees above (Tree object cs rest) within all =
    let here : IsIn trees object = within object.handle (grind (arith, nat_tests)) in
    let down = path_in test trees (object ∷ above) cs (λ k is. within k (grind (arith, is))) (here, all) in
    let along = path_in test trees above rest (λ k is. within k (grind (arith, is))) all in
    by (test object) (has_by test cs) here down along where
      by : (one inside : Bool) → IsIn trees object → AllByRecursion (IsIn trees) (path_by test (object ∷ above) cs) → AllByRecursion (IsIn trees) (path_by test above rest) →
          AllByRecursion (IsIn trees) (if one then object ∷ above else (if inside then path_by test (object ∷ above) cs else path_by test above rest))
      by true inside here down along = (here, all)
      by false true here down along = down
      by false false here down along = along

-- what is scrolled is there
scrolled_there : (scene : Scene) (down : Bool) (h : Handle) → IsThereIfAny scene (scrolled_from scene down h)
scrolled_there scene down h = by (find (can_scroll scene down) (path_at scene h.0)) (found_passes (can_scroll scene down) (IsIn scene.trees) (path_at scene h.0) (path_in (is_at h.0) scene.trees [] scene.trees (λ k is. is) tt)) where
  by : (found : Option Object) → IfSome found (λ object. IsIn scene.trees object × (can_scroll scene down object ≡ true)) →
      IsThereIfAny scene (option_map (λ (object : Object). record { 0 = object.handle }) found)
  by None one = tt
  by (Some object) one = one.0

-- What stands while some leave.

-- an object is there, or is one of those that leave, where there is one
abbrev Aims : List ℕ → Scene → Option Handle → Type 0
Aims leaving scene target = IfSome target (λ h. (is_there scene h.0 || is_among leaving h.0) ≡ true)

abbrev AimsAt : List ℕ → Scene → Option Scrolling → Type 0
AimsAt leaving scene scrolling = IfSome scrolling (λ s. Aims leaving scene s.object)

-- members that are there or leave, and all else that is there or is still to be let go
record Holds (leaving held : List ℕ) (scene : Scene) (handlers : List (List Handler)) (groups : Groups) (pointer : Option Handle) (scrolling : Option Scrolling) (keypad encoder : Option Handle) : Type 0 where
  valid : IsValid scene
  there : (k : ℕ) → is_among (member_handles groups) k ≡ true → (is_there scene k || is_among leaving k) ≡ true
  once : stand_once (member_handles groups) ≡ true
  focused : AllByRecursion (FocusesMember groups) groups.groups
  pointed : Aims held scene pointer
  scrolled : AimsAt held scene scrolling
  keyed : Aims held scene keypad
  pushed : Aims held scene encoder
  handled : (k : ℕ) → is_there scene k ≡ false → is_among held k ≡ false → handlers_of handlers k ≡ []

abbrev Stands : List ℕ → Standing → Type 0
Stands leaving t = Holds leaving leaving t.0 t.1 t.2 t.4 t.5 t.6 t.7

abbrev Stand : List ℕ → Machine → Type 0
Stand leaving m = Stands leaving (seen_of m)

-- where all stay that were there
module _ (leaving later : List ℕ) (before after : Scene) (stays : (k : ℕ) → (is_there before k || is_among leaving k) ≡ true → (is_there after k || is_among later k) ≡ true) where
  aims_on : (target : Option Handle) → Aims leaving before target → Aims later after target
  aims_on None one = tt
  aims_on (Some h) one = stays h.0 one

  aims_at_on : (scrolling : Option Scrolling) → AimsAt leaving before scrolling → AimsAt later after scrolling
  aims_at_on None one = tt
  aims_at_on (Some s) one = aims_on s.object one

  none_on : (handlers : List (List Handler)) → ((k : ℕ) → is_there before k ≡ false → is_among leaving k ≡ false → handlers_of handlers k ≡ []) →
      (k : ℕ) → is_there after k ≡ false → is_among later k ≡ false → handlers_of handlers k ≡ []
  none_on handlers handled k gone out = elim (cases_Bool (is_there before k || is_among leaving k)) [
    | inl on ↦ absurd (grind (arith, stays k on, gone, out))
    | inr off ↦ handled k (grind (arith, off)) (grind (arith, off))
  ]

  -- another scene, in which all stay
  stand_on : (handlers : List (List Handler)) (groups : Groups) (pointer : Option Handle) (scrolling : Option Scrolling) (keypad encoder : Option Handle) → IsValid after →
      Holds leaving leaving before handlers groups pointer scrolling keypad encoder → Holds later later after handlers groups pointer scrolling keypad encoder
  stand_on handlers groups pointer scrolling keypad encoder v s = record {
    valid = v;
    there = λ k is. stays k (s.there k is);
    once = s.once;
    focused = s.focused;
    pointed = aims_on pointer s.pointed;
    scrolled = aims_at_on scrolling s.scrolled;
    keyed = aims_on keypad s.keyed;
    pushed = aims_on encoder s.pushed;
    handled = none_on handlers s.handled;
  }

-- other groups, with members among those that stay
with_focuses : (leaving held : List ℕ) (scene : Scene) (handlers : List (List Handler)) (groups later : Groups) (pointer : Option Handle) (scrolling : Option Scrolling) (keypad encoder : Option Handle) →
    Focuses groups.members later → Holds leaving held scene handlers groups pointer scrolling keypad encoder → Holds leaving held scene handlers later pointer scrolling keypad encoder
with_focuses leaving held scene handlers groups later pointer scrolling keypad encoder f s =
    let same : member_handles later ≡ member_handles groups = ap (λ (members : List Member). map (λ (member : Member). member.h.0) members) f.members_are in record {
      valid = s.valid;
      there = rw same s.there;
      once = rw same s.once;
      focused = f.all;
      pointed = s.pointed;
      scrolled = s.scrolled;
      keyed = s.keyed;
      pushed = s.pushed;
      handled = s.handled;
    }

module _ (leaving : List ℕ) where
  abbrev Keeps : Rule → Type 0
  Keeps rule = (m : Machine) → Stand leaving m → Stand leaving (rule m).machine

  keeps_nothing : Keeps nothing
  keeps_nothing m s = s

  keeps_then : (first second : Rule) → Keeps first → Keeps second → Keeps (first ▷ second)
  unfolding ◌▷◌ ◌⊳◌
  keeps_then first second h k m s = k (first m).machine (h m s)

  keeps_look : (f : Machine → Rule) → ((m : Machine) → Keeps (f m)) → Keeps (λ m. f m m)
  keeps_look f h m s = h m m s

  keeps_still : (f : Machine → Machine) → ((m : Machine) → seen_of (f m) ≡ seen_of m) → Keeps (with f)
  unfolding with
  keeps_still f same m s = subst (Stands leaving) (sym (same m)) s

  keeps_fewer : (kept : Machine → Anim → Bool) → Keeps (with (λ m. record m { anims = filter (kept m) m.anims }))
  unfolding with
  keeps_fewer kept m s = record {
    valid = s.valid;
    there = s.there;
    once = s.once;
    focused = s.focused;
    pointed = s.pointed;
    scrolled = s.scrolled;
    keyed = s.keyed;
    pushed = s.pushed;
    handled = s.handled;
  }

  -- a change that removes none
  keeps_make : (change : Change) → IsChange change → ((scene : Scene) (k : ℕ) → removed_sum scene change (one_at k) ≡ 0) → Keeps (make change)
  unfolding make
  keeps_make change c none m s = by (answer_of m.scene change) where
    stays : (k : ℕ) → (is_there m.scene k || is_among leaving k) ≡ true → (is_there (changed m.scene change) k || is_among leaving k) ≡ true
    stays k is = grind (arith, is, none-goes m.scene change s.valid c (none m.scene) k)

    by : (reason : Option Refusal) → Stand leaving (make_by reason change m).machine
    by None =
        stand_on leaving leaving m.scene (changed m.scene change) stays m.handlers m.groups m.pointer.target m.scrolling m.keypad.target m.encoder.target (change_keeps_valid m.scene change s.valid c) s
    by (Some refusal) = s

  keeps_put : (state : State) (on : Bool) (h : Handle) → Keeps (put_state state on h)
  keeps_put state on h = good_put Keeps keeps_nothing keeps_look state on h (keeps_make (change.State h state on) tt (λ scene k. refl))

  keeps_editing : (id : ℕ) (on : Bool) → Keeps (with_groups (λ groups. with_editing groups id on))
  unfolding with
  keeps_editing id on m s =
      with_focuses leaving leaving m.scene m.handlers m.groups (with_editing m.groups id on) m.pointer.target m.scrolling m.keypad.target m.encoder.target (editing_focuses m.groups id on s.focused) s

-- Leaving a group.
module _ (hs : List ℕ) (h : Handle) where
  -- who is to leave as a member, and is let go else
  abbrev Leaves : Machine → Type 0
  Leaves m = Holds (h.0 ∷ hs) hs m.scene m.handlers m.groups m.pointer.target m.scrolling m.keypad.target m.encoder.target

  gone_there : (scene : Scene) (groups : Groups) (id : ℕ) → ((k : ℕ) → is_among (member_handles groups) k ≡ true → (is_there scene k || is_among (h.0 ∷ hs) k) ≡ true) →
      (k : ℕ) → is_among (member_handles (left groups id h)) k ≡ true → (is_there scene k || is_among hs k) ≡ true
  gone_there scene groups id there k is = grind (arith, nat_tests, left-handles groups id h, is, among-filter (other_than h) (member_handles groups) k, there k)

  lets_left : (id : ℕ) (m : Machine) → group_of m.groups h ≡ Some id → Leaves m → Stand hs (with_groups (λ groups. left groups id h) m).machine
  unfolding with
  lets_left id m is s = record {
    valid = s.valid;
    there = gone_there m.scene m.groups id s.there;
    once = rw (left-handles m.groups id h) (once-filter (other_than h) (member_handles m.groups) s.once);
    focused = leave_focuses m.groups h id is s.focused;
    pointed = s.pointed;
    scrolled = s.scrolled;
    keyed = s.keyed;
    pushed = s.pushed;
    handled = s.handled;
  }

  lets_pass : (id : ℕ) (next : Option Handle) (m : Machine) → group_of m.groups h ≡ Some id → IfSome next (λ k. group_of (left m.groups id h) k ≡ Some id) → Leaves m → Stand hs (pass_on id h next m).machine
  unfolding with ◌▷◌ ◌⊳◌
  lets_pass id None m is one s = lets_left id m is s
  lets_pass id (Some k) m is one s =
      let out : Stand hs (with_groups (λ groups. left groups id h) m).machine = lets_left id m is s in
      let f = focused_focuses (left m.groups id h) id k one (leave_focuses m.groups h id is s.focused) in
      keeps_put hs Focused true k _
      (with_focuses hs hs m.scene m.handlers (left m.groups id h) (with_focused (left m.groups id h) id (Some k)) m.pointer.target m.scrolling m.keypad.target m.encoder.target f out)

  heir_is : (m : Machine) (id : ℕ) → stand_once (member_handles m.groups) ≡ true → IfSome (heir m id h) (λ k. group_of (left m.groups id h) k ≡ Some id)
  heir_is m id once = by (has_focus_of m.groups id h) refl where
    by : (b : Bool) → has_focus_of m.groups id h ≡ b → IfSome (if b then next_member (is_usable m.scene) m.groups id else None) (λ k. group_of (left m.groups id h) k ≡ Some id)
    by true e = heir_stays m.groups id (is_usable m.scene) h once e
    by false e = tt

  lets_group : (m : Machine) → Leaves m → Stand hs (leave_group h m).machine
  unfolding leave_group leave_from
  lets_group m s = by (group_of m.groups h) refl where
    by : (id : Option ℕ) → group_of m.groups h ≡ id → Stand hs (leave_from id h m).machine
    by None none = record {
      valid = s.valid;
      there = λ k is. grind (arith, nat_tests, s.there k is, is, in_none m.groups h none);
      once = s.once;
      focused = s.focused;
      pointed = s.pointed;
      scrolled = s.scrolled;
      keyed = s.keyed;
      pushed = s.pushed;
      handled = s.handled;
    }
    by (Some id) some = lets_pass id (heir m id h) m some (heir_is m id s.once) s

keeps_leave_group : (hs : List ℕ) (h : Handle) → Keeps hs (leave_group h)
keeps_leave_group hs h m s = lets_group hs h m (record {
  valid = s.valid;
  there = λ k is. grind (arith, s.there k is);
  once = s.once;
  focused = s.focused;
  pointed = s.pointed;
  scrolled = s.scrolled;
  keyed = s.keyed;
  pushed = s.pushed;
  handled = s.handled;
})

-- Handlers.

-- other handlers for an object leave who has none, where that object has none then either
set_none : (lists : List (List Handler)) (h k : ℕ) (new : List Handler) → handlers_of lists k ≡ [] → (k ≡ h → new ≡ []) → handlers_of (with_handlers lists h new) k ≡ []
set_none [] h k new none at = none
set_none (x ∷ xs) zero zero new none at = at refl
set_none (x ∷ xs) zero (suc k) new none at = none
set_none (x ∷ xs) (suc h) zero new none at = none
set_none (x ∷ xs) (suc h) (suc k) new none at = set_none xs h k new none (λ e. at (ap (λ (n : ℕ). suc n) e))

set_away : (lists : List (List Handler)) (h : ℕ) → handlers_of (with_handlers lists h []) h ≡ []
set_away [] h = refl
set_away (x ∷ xs) zero = refl
set_away (x ∷ xs) (suc h) = set_away xs h

-- An object is forgotten.
module _ (hs : List ℕ) (h : Handle) where
  aims_less : (scene : Scene) (target : Option Handle) → Aims (h.0 ∷ hs) scene target → Aims hs scene (if is_it h target then None else target)
  aims_less scene None one = tt
  aims_less scene (Some k) one = by (k.0 == h.0) refl where
    by : (b : Bool) → (k.0 == h.0) ≡ b → Aims hs scene (if b then None else Some k)
    by true e = tt
    by false e = grind (arith, nat_tests, e, one)

  aims_at_less : (scene : Scene) (scrolling : Option Scrolling) → AimsAt (h.0 ∷ hs) scene scrolling → AimsAt hs scene (option_map (unscrolled h) scrolling)
  aims_at_less scene None one = tt
  aims_at_less scene (Some s) one = aims_less scene s.object one

  handlers_less : (scene : Scene) (lists : List (List Handler)) → ((k : ℕ) → is_there scene k ≡ false → is_among (h.0 ∷ hs) k ≡ false → handlers_of lists k ≡ []) →
      (k : ℕ) → is_there scene k ≡ false → is_among hs k ≡ false → handlers_of (with_handlers lists h.0 []) k ≡ []
  handlers_less scene lists handled k gone out = elim (cases_Bool (h.0 == k)) [
    | inl same ↦ let equal : h.0 ≡ k = grind (arith, nat_tests, same) in subst (λ (n : ℕ). handlers_of (with_handlers lists h.0 []) n ≡ []) equal (set_away lists h.0)
    | inr other ↦ set_none lists h.0 k [] (handled k gone (grind (arith, nat_tests, other, out))) (λ e. refl)
  ]

  lets_forget : (m : Machine) → Stand (h.0 ∷ hs) m → Stand hs (forget h m).machine
  unfolding forget with ◌▷◌ ◌⊳◌
  lets_forget m s = lets_group hs h (without_anims h (without_targets h (without_handlers h m))) (record {
    valid = s.valid;
    there = s.there;
    once = s.once;
    focused = s.focused;
    pointed = aims_less m.scene m.pointer.target s.pointed;
    scrolled = aims_at_less m.scene m.scrolling s.scrolled;
    keyed = aims_less m.scene m.keypad.target s.keyed;
    pushed = aims_less m.scene m.encoder.target s.pushed;
    handled = handlers_less m.scene m.handlers s.handled;
  })

-- all who leave are forgotten
all_forgotten : (hs : List ℕ) (m : Machine) → Stand hs m → Stand [] (each forget (handles hs) m).machine
unfolding each ◌▷◌ ◌⊳◌
all_forgotten [] m s = s
all_forgotten (h ∷ hs) m s = all_forgotten hs (forget (record { 0 = h }) m).machine (lets_forget hs (record { 0 = h }) m s)

-- Changes.

-- a delete, before those that it removes are forgotten
deleted_leave : (h : Handle) (m : Machine) → Stand [] m → Stand (not_there (changed m.scene (change.Delete h)) (below m.scene h.0)) (make (change.Delete h) m).machine
unfolding make
deleted_leave h m s = by (answer_of m.scene (change.Delete h)) refl where
  after : Scene
  after = changed m.scene (change.Delete h)

  leaving : List ℕ
  leaving = not_there after (below m.scene h.0)

  stays : answer_of m.scene (change.Delete h) ≡ None → (k : ℕ) → (is_there m.scene k || is_among [] k) ≡ true → (is_there after k || is_among leaving k) ≡ true
  stays done k is = grind (arith, is, others-stay m.scene h s.valid done k, among-filter (λ h. not (is_there after h)) (below m.scene h.0) k)

  by : (reason : Option Refusal) → answer_of m.scene (change.Delete h) ≡ reason → Stand leaving (make_by reason (change.Delete h) m).machine
  by None done =
      stand_on [] leaving m.scene after (stays done) m.handlers m.groups m.pointer.target m.scrolling m.keypad.target m.encoder.target (change_keeps_valid m.scene (change.Delete h) s.valid tt) s
  by (Some refusal) e =
      stand_on [] leaving m.scene m.scene (λ k is. grind (arith, is)) m.handlers m.groups m.pointer.target m.scrolling m.keypad.target m.encoder.target s.valid s

keeps_made : (change : Change) → IsChange change → Keeps [] (made change)
unfolding made each ◌▷◌ ◌⊳◌
keeps_made (change.Delete h) c m s =
    all_forgotten (not_there (changed m.scene (change.Delete h)) (below m.scene h.0)) (make (change.Delete h) m).machine (deleted_leave h m s)
keeps_made change c m s = keeps_make [] change c (λ scene k. refl) m s

keeps_attempt : (change : Change) → IsChange change → Keeps [] (attempt change)
unfolding attempt note
keeps_attempt change c m s = by (answer_of m.scene change) where
  by : (reason : Option Refusal) → Stand [] (attempt_by reason change m).machine
  by None = keeps_made change c m s
  by (Some refusal) = s

keeps_asked : (kind : EventKind) (target current : Handle) (change : Option Change) → IfSome change IsChange → Keeps [] (say_or_change kind target current change)
unfolding say
keeps_asked kind target current None c m s = s
keeps_asked kind target current (Some change) c m s = keeps_attempt change c m s

steady : IsSteady (Keeps [])
steady = record {
  none = keeps_nothing [];
  next = keeps_then [];
  look = keeps_look [];
  still = keeps_still [];
  fewer = keeps_fewer [];
  editing = keeps_editing [];
  value = λ h n. keeps_make [] (change.Value h n) tt (λ scene k. refl);
  place = λ h x y. keeps_make [] (change.Pos h x y) tt (λ scene k. refl);
  size = λ h width height. keeps_make [] (change.Size h width height) tt (λ scene k. refl);
  scroll = λ h x y. keeps_make [] (change.Scroll h x y) tt (λ scene k. refl);
  state = λ h state on. keeps_make [] (change.State h state on) tt (λ scene k. refl);
  acted = λ kind target current a. keeps_asked kind target current (asked target a) (asked_is target a);
  left = keeps_leave_group [];
}

-- The focus.

-- a member gets the focus
moves_from : (old : Option Handle) (id : ℕ) (by_key : Bool) (h : Handle) (m : Machine) → group_of m.groups h ≡ Some id → Stand [] m → Stand [] (move_from old id by_key h m).machine
unfolding move_from hand_over with ◌▷◌ ◌⊳◌
moves_from old id by_key h m is s =
    let taken : Stand [] (with_groups (focus_taken id h) m).machine =
    with_focuses [] [] m.scene m.handlers m.groups (focus_taken id h m.groups) m.pointer.target m.scrolling m.keypad.target m.encoder.target (taken_focuses m.groups id h is s.focused) s in
    let lost = good_aimed (Keeps []) steady unfocus (good_unfocus (Keeps []) steady) old (with_groups (focus_taken id h) m).machine taken in
    let got = good_refocus (Keeps []) steady by_key h _ lost in
    let told = good_aimed (Keeps []) steady (send_there event.Defocused) (good_send_there (Keeps []) steady event.Defocused) old _ got in
    good_send_there (Keeps []) steady event.Focused h _ told

moves : (id : ℕ) (by_key : Bool) (h : Handle) (m : Machine) → group_of m.groups h ≡ Some id → Stand [] m → Stand [] (move_focus id by_key h m).machine
unfolding move_focus
moves id by_key h m is s = moves_from (focused_in (group_at m.groups id)) id by_key h m is s

keeps_focus : (h : Handle) → Keeps [] (focus h)
unfolding focus
keeps_focus h m s = by (has_focus m.groups h) (group_of m.groups h) refl where
  by : (has : Bool) (id : Option ℕ) → group_of m.groups h ≡ id → Stand [] (focus_by has id h m).machine
  by true id e = s
  by false None e = s
  by false (Some id) e = moves id false h m e s

keeps_step : (forwards : Bool) (id : ℕ) → Keeps [] (step_focus forwards id)
unfolding step_focus aimed
keeps_step forwards id m s = by (next_to_focus forwards id m) (next forwards) where
  next : (forwards : Bool) → IfSome (next_to_focus forwards id m) (λ k. group_of m.groups k ≡ Some id)
  next true = next_is_member m.groups id (is_usable m.scene) s.once
  next false = previous_is_member m.groups id (is_usable m.scene) s.once

  by : (found : Option Handle) → IfSome found (λ k. group_of m.groups k ≡ Some id) → Stand [] (aimed found (move_focus id true) m).machine
  by None one = s
  by (Some k) one = moves id true k m one s

-- Targets.

-- who is there is aimed at
aimed_there : (scene : Scene) (target : Option Handle) → IsThereIfAny scene target → Aims [] scene target
aimed_there scene None one = tt
aimed_there scene (Some h) one = grind (arith, one)

there_aimed : (scene : Scene) (target : Option Handle) → Aims [] scene target → IsThereIfAny scene target
there_aimed scene None one = tt
there_aimed scene (Some h) one = grind (arith, one)

keeps_begin : (drag : Drag) (h : Handle) → Keeps [] (begin drag h)
unfolding begin begin_on with ◌▷◌ ◌⊳◌
keeps_begin drag h m s = by (may_scroll m.scene drag h) where
  by_found : (found : Option Handle) → IsThereIfAny m.scene found → Stand [] (begin_on (goes_down drag) found m).machine
  by_found None one = s
  by_found (Some k) one = keeps_put [] Scrolled true k (scrolls (Some (record { object = Some k; down = goes_down drag })) m) (record {
    valid = s.valid;
    there = s.there;
    once = s.once;
    focused = s.focused;
    pointed = s.pointed;
    scrolled = aimed_there m.scene (Some k) one;
    keyed = s.keyed;
    pushed = s.pushed;
    handled = s.handled;
  })

  by : (b : Bool) → Stand [] ((if b then begin_on (goes_down drag) (scrolled_from m.scene (goes_down drag) h) else nothing) m).machine
  by true = by_found (scrolled_from m.scene (goes_down drag) h) (scrolled_there m.scene (goes_down drag) h)
  by false = s

keeps_press_pointer : (at : Option PointerReading) → Keeps [] (λ m. press_pointer at (hit_by at m.scene) m)
unfolding press_pointer with ◌▷◌ ◌⊳◌
keeps_press_pointer at m s =
    let target = hit_by at m.scene in
    good_aimed (Keeps []) steady (press at) (good_press (Keeps []) steady at) target (scrolls None (pointer_at target m)) (record {
      valid = s.valid;
      there = s.there;
      once = s.once;
      focused = s.focused;
      pointed = aimed_there m.scene target (hit_by_there at m.scene);
      scrolled = tt;
      keyed = s.keyed;
      pushed = s.pushed;
      handled = s.handled;
    })

-- a member is there
member_among : (members : List Member) (h : Handle) (id : ℕ) → option_map (λ (member : Member). member.group) (find (is_object h) members) ≡ Some id → is_among (map (λ (member : Member). member.h.0) members) h.0 ≡ true
member_among [] h id is = cc
member_among (member ∷ members) h id is = grind (arith, nat_tests, is, member_among members h id)

focused_there : (m : Machine) (id : ℕ) → Stand [] m → Aims [] m.scene (focused_at m id)
focused_there m id s = by (group_at m.groups id) (found_passes (λ group. group.id == id) (FocusesMember m.groups) m.groups.groups s.focused) where
  by_focused : (focused : Option Handle) (n : ℕ) → IfSome focused (λ h. group_of m.groups h ≡ Some n) → Aims [] m.scene focused
  by_focused None n one = tt
  by_focused (Some h) n one = s.there h.0 (member_among m.groups.members h n one)

  by : (found : Option Group) → IfSome found (λ group. FocusesMember m.groups group × ((group.id == id) ≡ true)) → Aims [] m.scene (focused_in found)
  by None one = tt
  by (Some group) one = by_focused group.focused group.id one.0

keeps_press_keypad : Keeps [] (λ m. press_keypad (focused_at m m.keypad_group) m)
unfolding press_keypad with ◌▷◌ ◌⊳◌
keeps_press_keypad m s =
    let target = focused_at m m.keypad_group in
    good_aimed (Keeps []) steady (press None) (good_press (Keeps []) steady None) target (keypad_at target m) (record {
      valid = s.valid;
      there = s.there;
      once = s.once;
      focused = s.focused;
      pointed = s.pointed;
      scrolled = s.scrolled;
      keyed = focused_there m m.keypad_group s;
      pushed = s.pushed;
      handled = s.handled;
    })

keeps_press_encoder : Keeps [] (λ m. press_encoder (focused_at m m.encoder_group) m)
unfolding press_encoder with ◌▷◌ ◌⊳◌
keeps_press_encoder m s =
    let target = focused_at m m.encoder_group in
    good_aimed (Keeps []) steady (press None) (good_press (Keeps []) steady None) target (encoder_at target m) (record {
      valid = s.valid;
      there = s.there;
      once = s.once;
      focused = s.focused;
      pointed = s.pointed;
      scrolled = s.scrolled;
      keyed = s.keyed;
      pushed = focused_there m m.encoder_group s;
      handled = s.handled;
    })

played : IsPlayed (Keeps [])
played = record {
  steady = steady;
  focused = keeps_focus;
  stepped = keeps_step;
  begun = keeps_begin;
  pressed = keeps_press_pointer;
  keyed = keeps_press_keypad;
  pushed = keeps_press_encoder;
}

-- Commands.

join_stands : (id : ℕ) (h : Handle) (m : Machine) → is_there m.scene h.0 ≡ true → group_of m.groups h ≡ None → Stand [] m → Stand [] (join id h m).machine
unfolding join with ◌▷◌ ◌⊳◌
join_stands id h m on none s = by (focused_in (group_at m.groups id)) where
  members : List ℕ
  members = member_handles m.groups

  more : member_handles (joined m.groups id h) ≡ members ++ h.0 ∷ []
  more = joined-handles m.groups id h

  larger : Stand [] (with_groups (λ groups. joined groups id h) m).machine
  larger = record {
    valid = s.valid;
    there = λ k is. grind (arith, nat_tests, more, is, among-append members (h.0 ∷ []) k, s.there k, on);
    once = rw more (once-append members h.0 (in_none m.groups h none) s.once);
    focused = joined_focuses m.groups id h s.focused;
    pointed = s.pointed;
    scrolled = s.scrolled;
    keyed = s.keyed;
    pushed = s.pushed;
    handled = s.handled;
  }

  by : (other : Option Handle) → Stand [] (first_focus other id h (with_groups (λ groups. joined groups id h) m).machine).machine
  by None = moves id false h (with_groups (λ groups. joined groups id h) m).machine (joins m.groups id h none) larger
  by (Some other) = larger

-- who is there gets a handler
handled_on : (m : Machine) (h : Handle) (new : List Handler) → is_there m.scene h.0 ≡ true → Stand [] m →
    (k : ℕ) → is_there m.scene k ≡ false → is_among [] k ≡ false → handlers_of (with_handlers m.handlers h.0 new) k ≡ []
handled_on m h new on s k gone out =
    set_none m.handlers h.0 k new (s.handled k gone out) (λ e. let off : is_there m.scene h.0 ≡ false = subst (λ (n : ℕ). is_there m.scene n ≡ false) e gone in absurd (grind (arith, on, off)))

-- handlers of some kinds go
handled_off : (m : Machine) (h : Handle) (kind : EventKind) → Stand [] m →
    (k : ℕ) → is_there m.scene k ≡ false → is_among [] k ≡ false → handlers_of (with_handlers m.handlers h.0 (of_other_kinds kind (handlers_of m.handlers h.0))) k ≡ []
handled_off m h kind s k gone out =
    let none = s.handled k gone out in
    set_none m.handlers h.0 k _ none (λ e. ap (of_other_kinds kind) (subst (λ (n : ℕ). handlers_of m.handlers n ≡ []) e none))

-- a test that refuses nothing fails
one_fails : (test : Test) (later : Option Refusal) → first_of (test ∷ []) later ≡ None → test.0 ≡ false
one_fails test later none = by test.0 none where
  by : (b : Bool) → (if b then Some (refusal_of test.1) else later) ≡ None → b ≡ false
  by true e = cc
  by false e = refl

rule_stands : (command : Command) (m : Machine) → IsCommand command → answer m command ≡ None → Stand [] m → Stand [] (rule_of command m).machine
unfolding with
rule_stands (ask.Change change) m c none s = keeps_made change c m s
rule_stands (ask.On h kind a) m c none s =
    let there = one_fails (gone m h) (full_for m (ask.On h kind a)) (range_done (is_command_in_range (ask.On h kind a)) _ none).1 in record {
      valid = s.valid;
      there = s.there;
      once = s.once;
      focused = s.focused;
      pointed = s.pointed;
      scrolled = s.scrolled;
      keyed = s.keyed;
      pushed = s.pushed;
      handled = handled_on m h _ (not-false _ there) s;
    }
rule_stands (ask.Off h kind) m c none s = record {
  valid = s.valid;
  there = s.there;
  once = s.once;
  focused = s.focused;
  pointed = s.pointed;
  scrolled = s.scrolled;
  keyed = s.keyed;
  pushed = s.pushed;
  handled = handled_off m h kind s;
}
rule_stands (ask.Group id) m c none s = record {
  valid = s.valid;
  there = s.there;
  once = s.once;
  focused = group_focuses m.groups id s.focused;
  pointed = s.pointed;
  scrolled = s.scrolled;
  keyed = s.keyed;
  pushed = s.pushed;
  handled = s.handled;
}
rule_stands (ask.Join id h) m c none s =
    let t = tests-fail (tests_of m (ask.Join id h)) None (range_done (is_command_in_range (ask.Join id h)) _ none).1 in
    join_stands id h m (not-false _ t.1.0) (is_none (group_of m.groups h) t.1.1.0) s
rule_stands (ask.Anim spec) m c none s = record {
  valid = s.valid;
  there = s.there;
  once = s.once;
  focused = s.focused;
  pointed = s.pointed;
  scrolled = s.scrolled;
  keyed = s.keyed;
  pushed = s.pushed;
  handled = s.handled;
}
rule_stands command m c none s = played_rule (Keeps []) played command tt m s

-- The laws.

at_there : (scene : Scene) (scrolling : Option Scrolling) → IfSome scrolling (λ s. IsThereIfAny scene s.object) → AimsAt [] scene scrolling
at_there scene None one = tt
at_there scene (Some s) one = aimed_there scene s.object one

there_at : (scene : Scene) (scrolling : Option Scrolling) → AimsAt [] scene scrolling → IfSome scrolling (λ s. IsThereIfAny scene s.object)
there_at scene None one = tt
there_at scene (Some s) one = there_aimed scene s.object one

held_stands : (m : Machine) → IsValid m.scene → AreJoined m → AreHeld m → Stand [] m
held_stands m v joined held = record {
  valid = v;
  there = λ k is. grind (arith, joined.there k is);
  once = joined.once;
  focused = held.focused;
  pointed = aimed_there m.scene m.pointer.target held.pointer;
  scrolled = at_there m.scene m.scrolling held.scrolled;
  keyed = aimed_there m.scene m.keypad.target held.keypad;
  pushed = aimed_there m.scene m.encoder.target held.encoder;
  handled = λ k gone out. held.handlers k gone;
}

stands_held : (m : Machine) → Stand [] m → AreHeld m
stands_held m s = record {
  focused = s.focused;
  pointer = there_aimed m.scene m.pointer.target s.pointed;
  scrolled = there_at m.scene m.scrolling s.scrolled;
  keypad = there_aimed m.scene m.keypad.target s.keyed;
  encoder = there_aimed m.scene m.encoder.target s.pushed;
  handlers = λ k gone. s.handled k gone refl;
}

pub steps_keep_held : StepsKeepHeld
unfolding step
steps_keep_held machine command v c joined held = by (answer machine command) refl where
  by : (reason : Option Refusal) → answer machine command ≡ reason → AreHeld (unless reason (rule_of command) machine).machine
  by None none = stands_held (rule_of command machine).machine (rule_stands command machine c none (held_stands machine v joined held))
  by (Some refusal) e = held

none_in : (n k : ℕ) → handlers_of (replicate n []) k ≡ []
none_in zero k = refl
none_in (suc n) zero = refl
none_in (suc n) (suc k) = none_in n k

no_handlers_at : (k : ℕ) → handlers_of no_handlers k ≡ []
unfolding no_handlers
no_handlers_at k = none_in 65536 k

pub first_are_held : FirstAreHeld
first_are_held limits = record { focused = tt; pointer = tt; scrolled = tt; keypad = tt; encoder = tt; handlers = λ h gone. no_handlers_at h }
