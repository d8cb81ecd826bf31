-- The members of groups are there, and each is one once, whatever is played.
use Rattle.std.proofs.Common.{◌≡◌, ◌∙◌, ap, refl, ℕ, Bool, true, false, Option, Some, None, is_some, option_map, find, List, [], ◌∷◌, ◌++◌, map, filter, length, arith}
use Rattle.std.specs.Prelude.{not, ◌||◌, ◌==◌, IfSome}
use Rattle.std.proofs.lemmas.Bool.{not-false}
use Rattle.std.proofs.lemmas.Bool.Decides.{nat_tests}
use Rattle.std.proofs.lemmas.List.{map-append}
use Rattle.gui_base.specs.declared.Handle.{Handle}
use Rattle.gui_base.specs.declared.events.Action.{Action}
use Rattle.gui_base.specs.declared.events.Action.TheVariants as action
use Rattle.gui_base.specs.declared.events.EventKind.{EventKind}
use Rattle.gui_base.specs.declared.refusal.Refusal.{Refusal}
use Rattle.gui_base.specs.declared.words.State.{State}
use Rattle.gui_base.specs.declared.words.State.TheVariants.{Focused}
use Rattle.gui_base.specs.Forest.{preorder}
use Rattle.gui_base.proofs.Forests.{map-size}
use Rattle.play_defs.specs.Focus.{Groups, group_at, group_of, focused_in, is_object, with_focused, with_released, released_by, joined, left}
use Rattle.play_defs.specs.declared.Group.{Group}
use Rattle.play_defs.specs.declared.Member.{Member}
use Rattle.scene_defs.specs.declared.Change.{Change}
use Rattle.scene_defs.specs.declared.Change.TheVariants as change
use Rattle.scene_defs.specs.Change.{answer_of, changed}
use Rattle.scene_defs.specs.Edits.{below}
use Rattle.scene_defs.specs.Scene.{Scene, handle_of, handles_of, is_there}
use Rattle.scene_defs.specs.Valid.{IsValid, IsChange, is_among, stand_once}
use Rattle.scene_defs.proofs.Assets.{once-append}
use Rattle.scene_defs.proofs.Changes.{range_done, tests-fail}
use Rattle.scene_defs.proofs.Totals.{one_at}
use Rattle.scene_defs.proofs.Validity.{removed_sum, change_keeps_valid}
use Rattle.run_defs.specs.declared.Command.{Command}
use Rattle.run_defs.specs.declared.Command.TheVariants as ask
use Rattle.run_defs.specs.Events.{asked, say, say_or_change}
use Rattle.run_defs.specs.Focusing.{join}
use Rattle.run_defs.specs.Machine.{Machine}
use Rattle.run_defs.specs.Making.{make, make_by, put_state, with_groups, heir, pass_on, leave_from, leave_group, without_handlers, without_targets, without_anims, forget, handles, not_there, made, note, attempt, attempt_by}
use Rattle.run_defs.specs.Play.{Rule, nothing, with, ◌⊳◌, ◌▷◌, each}
use Rattle.run_defs.specs.Step.{answer, tests_of, is_command_in_range, rule_of, unless, step, IsCommand}
use Rattle.run_defs.proofs.Inputs.{put-members, IsAside, IsClosed, good_first, good_rule}
use Rattle.run_defs.proofs.Playing.{good_put}
use Rattle.run_laws.specs.Members.{member_handles, AreJoined, FirstAreJoined, StepsKeepMembers, OneMoreFits}
use Rattle.run_laws.proofs.Counting.{among-append, among-filter, once-filter, no_more, preorder-length, preorder-has}
use Rattle.run_laws.proofs.Scenes.{none-goes, others-stay}

-- The handles of members.

-- who is in no group is no member
no_member : (members : List Member) (h : Handle) → find (is_object h) members ≡ None → is_among (map (λ (member : Member). member.h.0) members) h.0 ≡ false
no_member [] h none = refl
no_member (member ∷ members) h none = grind (arith, nat_tests, none, no_member members h)

pub in_none : (groups : Groups) (h : Handle) → group_of groups h ≡ None → is_among (member_handles groups) h.0 ≡ false
in_none groups h none = no_member groups.members h (by (find (is_object h) groups.members) none) where
  by : (found : Option Member) → option_map (λ (member : Member). member.group) found ≡ None → found ≡ None
  by None e = refl
  by (Some member) e = cc

pub focused-members : (groups : Groups) (id : ℕ) (h : Option Handle) → (with_focused groups id h).members ≡ groups.members
focused-members groups id h = put-members groups (option_map (λ (group : Group). record group { focused = h }) (group_at groups id))

-- whether a handle is not h
abbrev pub other_than : Handle → ℕ → Bool
other_than h k = not (k == h.0)

-- a member that leaves
filtered : (members : List Member) (h : Handle) →
    map (λ (member : Member). member.h.0) (filter (λ member. not (is_object h member)) members) ≡ filter (other_than h) (map (λ (member : Member). member.h.0) members)
filtered [] h = refl
filtered (member ∷ members) h = grind (arith, filtered members h)

pub left-handles : (groups : Groups) (id : ℕ) (h : Handle) → member_handles (left groups id h) ≡ filter (other_than h) (member_handles groups)
left-handles groups id h =
    filtered (with_released groups id h).members h
    ∙ ap (λ (members : List Member). filter (other_than h) (map (λ (member : Member). member.h.0) members)) (put-members groups (option_map (released_by h) (group_at groups id)))

-- a scene that is in order, whose members are there, or are of those that leave, and are members once
record Stand (leaving : List ℕ) (m : Machine) : Type 0 where
  valid : IsValid m.scene
  there : (k : ℕ) → is_among (member_handles m.groups) k ≡ true → (is_there m.scene k || is_among leaving k) ≡ true
  once : stand_once (member_handles m.groups) ≡ true

module _ (leaving : List ℕ) where
  abbrev Keeps : Rule → Type 0
  Keeps rule = (m : Machine) → Stand leaving m → Stand leaving (rule m).machine

  keeps_nothing : Keeps nothing
  keeps_nothing m s = s

  keeps_then : (first second : Rule) → Keeps first → Keeps second → Keeps (first ▷ second)
  unfolding ◌▷◌ ◌⊳◌
  keeps_then first second h k m s = k (first m).machine (h m s)

  keeps_look : (f : Machine → Rule) → ((m : Machine) → Keeps (f m)) → Keeps (λ m. f m m)
  keeps_look f h m s = h m m s

  -- a change that removes none
  keeps_make : (change : Change) → IsChange change → ((scene : Scene) (k : ℕ) → removed_sum scene change (one_at k) ≡ 0) → Keeps (make change)
  unfolding make
  keeps_make change c none m s = by (answer_of m.scene change) where
    by : (reason : Option Refusal) → Stand leaving (make_by reason change m).machine
    by None = record {
      valid = change_keeps_valid m.scene change s.valid c;
      there = λ k is. grind (arith, s.there k is, none-goes m.scene change s.valid c (none m.scene) k);
      once = s.once;
    }
    by (Some refusal) = s

  keeps_put : (state : State) (on : Bool) (h : Handle) → Keeps (put_state state on h)
  keeps_put state on h = good_put Keeps keeps_nothing keeps_look state on h (keeps_make (change.State h state on) tt (λ scene k. refl))

-- Leaving a group.
module _ (hs : List ℕ) (h : Handle) where
  -- who leaves is no member afterwards
  abbrev Lets : Rule → Type 0
  Lets rule = (m : Machine) → Stand (h.0 ∷ hs) m → Stand hs (rule m).machine

  lets_left : (f : Groups → Groups) → ((groups : Groups) → member_handles (f groups) ≡ filter (other_than h) (member_handles groups)) → Lets (with_groups f)
  unfolding with
  lets_left f same m s = record {
    valid = s.valid;
    there = λ k is. grind (arith, nat_tests, same m.groups, is, among-filter (other_than h) (member_handles m.groups) k, s.there k);
    once = rw (same m.groups) (once-filter (other_than h) (member_handles m.groups) s.once);
  }

  lets_pass : (id : ℕ) (next : Option Handle) → Lets (pass_on id h next)
  unfolding ◌▷◌ ◌⊳◌
  lets_pass id None m s = lets_left (λ groups. left groups id h) (λ groups. left-handles groups id h) m s
  lets_pass id (Some k) m s =
      keeps_put hs Focused true k _
      (lets_left (λ groups. with_focused (left groups id h) id (Some k))
      (λ groups. ap (λ (members : List Member). map (λ (member : Member). member.h.0) members) (focused-members (left groups id h) id (Some k)) ∙ left-handles groups id h) m s)

  lets_group : Lets (leave_group h)
  unfolding leave_group leave_from
  lets_group m s = by (group_of m.groups h) refl where
    by : (id : Option ℕ) → group_of m.groups h ≡ id → Stand hs (leave_from id h m).machine
    by None none = record {
      valid = s.valid;
      there = λ k is. grind (arith, nat_tests, s.there k is, is, in_none m.groups h none);
      once = s.once;
    }
    by (Some id) some = lets_pass id (heir m id h) m s

  lets_forget : Lets (forget h)
  unfolding forget with ◌▷◌ ◌⊳◌
  lets_forget m s = lets_group (without_anims h (without_targets h (without_handlers h m))) (record { valid = s.valid; there = s.there; once = s.once })

keeps_leave_group : (hs : List ℕ) (h : Handle) → Keeps hs (leave_group h)
keeps_leave_group hs h m s = lets_group hs h m (record { valid = s.valid; there = λ k is. grind (arith, s.there k is); once = s.once })

-- all who leave are forgotten
all_forgotten : (hs : List ℕ) (m : Machine) → Stand hs m → Stand [] (each forget (handles hs) m).machine
unfolding each ◌▷◌ ◌⊳◌
all_forgotten [] m s = s
all_forgotten (h ∷ hs) m s = all_forgotten hs (forget (record { 0 = h }) m).machine (lets_forget hs (record { 0 = h }) m s)

-- Changes.

-- a delete, before those that it removes are forgotten
deleted_leave : (h : Handle) (m : Machine) → Stand [] m → Stand (not_there (changed m.scene (change.Delete h)) (below m.scene h.0)) (make (change.Delete h) m).machine
unfolding make
deleted_leave h m s = by (answer_of m.scene (change.Delete h)) refl where
  after : Scene
  after = changed m.scene (change.Delete h)

  by : (reason : Option Refusal) → answer_of m.scene (change.Delete h) ≡ reason → Stand (not_there after (below m.scene h.0)) (make_by reason (change.Delete h) m).machine
  by None done = record {
    valid = change_keeps_valid m.scene (change.Delete h) s.valid tt;
    there = λ k is. grind (arith, s.there k is, others-stay m.scene h s.valid done k, among-filter (λ h. not (is_there after h)) (below m.scene h.0) k);
    once = s.once;
  }
  by (Some refusal) e = record { valid = s.valid; there = λ k is. grind (arith, s.there k is); once = s.once }

keeps_made : (change : Change) → IsChange change → Keeps [] (made change)
unfolding made each ◌▷◌ ◌⊳◌
keeps_made (change.Delete h) c m s =
    all_forgotten (not_there (changed m.scene (change.Delete h)) (below m.scene h.0)) (make (change.Delete h) m).machine (deleted_leave h m s)
keeps_made change c m s = keeps_make [] change c (λ scene k. refl) m s

keeps_attempt : (change : Change) → IsChange change → Keeps [] (attempt change)
unfolding attempt note
keeps_attempt change c m s = by (answer_of m.scene change) where
  by : (reason : Option Refusal) → Stand [] (attempt_by reason change m).machine
  by None = keeps_made change c m s
  by (Some refusal) = s

-- Events.
pub asked_is : (target : Handle) (a : Action) → IfSome (asked target a) IsChange
asked_is target action.Say = tt
asked_is target a = tt

keeps_asked : (kind : EventKind) (target current : Handle) (change : Option Change) → IfSome change IsChange → Keeps [] (say_or_change kind target current change)
unfolding say
keeps_asked kind target current None c m s = s
keeps_asked kind target current (Some change) c m s = keeps_attempt change c m s

keeps_aside : (f : Machine → Machine) → IsAside f → Keeps [] (with f)
unfolding with
keeps_aside f is m s = record { valid = rw (is.scene m) s.valid; there = rw (is.scene m, is.members m) s.there; once = rw (is.members m) s.once }

keeps_closed : IsClosed (Keeps [])
keeps_closed = record {
  none = keeps_nothing [];
  next = keeps_then [];
  look = keeps_look [];
  aside = keeps_aside;
  value = λ h n. keeps_make [] (change.Value h n) tt (λ scene k. refl);
  place = λ h x y. keeps_make [] (change.Pos h x y) tt (λ scene k. refl);
  scroll = λ h x y. keeps_make [] (change.Scroll h x y) tt (λ scene k. refl);
  size = λ h width height. keeps_make [] (change.Size h width height) tt (λ scene k. refl);
  state = λ h state on. keeps_make [] (change.State h state on) tt (λ scene k. refl);
  acted = λ kind target current a. keeps_asked kind target current (asked target a) (asked_is target a);
  left = keeps_leave_group [];
}

-- an object that is there and in no group joins one
pub joined-handles : (groups : Groups) (id : ℕ) (h : Handle) → member_handles (joined groups id h) ≡ member_handles groups ++ h.0 ∷ []
joined-handles groups id h = map-append (λ (member : Member). member.h.0) groups.members (record { group = id; h = h } ∷ [])

join_stands : (id : ℕ) (h : Handle) (m : Machine) → is_there m.scene h.0 ≡ true → group_of m.groups h ≡ None → Stand [] m → Stand [] (join id h m).machine
unfolding join with ◌▷◌ ◌⊳◌
join_stands id h m on none s =
    let members = member_handles m.groups in
    let more = joined-handles m.groups id h in
    good_first (Keeps []) keeps_closed (focused_in (group_at m.groups id)) id h _ (record {
      valid = s.valid;
      there = λ k is. grind (arith, nat_tests, more, is, among-append members (h.0 ∷ []) k, s.there k, on);
      once = rw more (once-append members h.0 (in_none m.groups h none) s.once);
    })

-- Commands.

-- an option that has no value
pub is_none : {A : Type 0} (o : Option A) → is_some o ≡ false → o ≡ None
is_none None i = refl
is_none (Some a) i = cc

rule_stands : (command : Command) (m : Machine) → IsCommand command → answer m command ≡ None → Stand [] m → Stand [] (rule_of command m).machine
unfolding with
rule_stands (ask.Change change) m c none s = keeps_made change c m s
rule_stands (ask.On h kind a) m c none s = record { valid = s.valid; there = s.there; once = s.once }
rule_stands (ask.Group id) m c none s = record { valid = s.valid; there = s.there; once = s.once }
rule_stands (ask.Join id h) m c none s =
    let t = tests-fail (tests_of m (ask.Join id h)) None (range_done (is_command_in_range (ask.Join id h)) _ none).1 in
    join_stands id h m (not-false _ t.1.0) (is_none (group_of m.groups h) t.1.1.0) s
rule_stands (ask.Anim spec) m c none s = record { valid = s.valid; there = s.there; once = s.once }
rule_stands command m c none s = good_rule (Keeps []) keeps_closed command tt m s

pub steps_keep_members : StepsKeepMembers
unfolding step
steps_keep_members machine command v c joined = by (answer machine command) refl where
  by : (reason : Option Refusal) → answer machine command ≡ reason → AreJoined (unless reason (rule_of command) machine).machine
  by None none =
      let s = rule_stands command machine c none (record { valid = v; there = λ k is. grind (arith, joined.there k is); once = joined.once }) in
      record { there = λ k is. grind (arith, s.there k is); once = s.once }
  by (Some refusal) e = joined

pub first_are_joined : FirstAreJoined
first_are_joined limits = record { there = λ h is. cc; once = refl }

pub one_more_fits : OneMoreFits
one_more_fits machine h v joined on none =
    let members = member_handles machine.groups in
    let names = handles_of machine.scene.trees in
    let once : stand_once (h.0 ∷ members) ≡ true = grind (arith, in_none machine.groups h none, joined.once) in
    let inside : (k : ℕ) → is_among (h.0 ∷ members) k ≡ true → is_among (preorder names) k ≡ true = λ k is. grind (arith, nat_tests, is, on, joined.there k, preorder-has names k) in
    omega (arith, no_more (h.0 ∷ members) (preorder names) once inside, preorder-length names, map-size handle_of machine.scene.trees, v.pools.objects, length-map machine.groups.members) where
      length-map : (members : List Member) → length (map (λ (member : Member). member.h.0) members) ≡ length members
      length-map [] = refl
      length-map (member ∷ members) = omega (arith, length-map members)
