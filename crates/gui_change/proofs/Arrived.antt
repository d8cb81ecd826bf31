-- A change that made an object: all that was shown is shown still, and stands and paints as before where it did not move.
use Rattle.std.proofs.Common.{◌≡◌, ◌∙◌, sym, ap, subst, ℕ, ◌<◌, true, false, eqb, List, Option, None, is_some, ◌+◌, ◌≤◌, length, inl, inr, arith}
use Rattle.std.specs.Prelude.{vec_capacity}
use Rattle.std.proofs.lemmas.Bool.{both_ways, cases_Bool, eqb-true, false_from_ne_true, not-false}
use Rattle.std.proofs.lemmas.List.{length-map}
use Rattle.gui_base.specs.Forest.{has}
use Rattle.gui_base.specs.declared.Handle.{Handle}
use Rattle.gui_pool.specs.Table.{value_at}
use Rattle.widget_defs.specs.Looks.{Look}
use Rattle.scene_defs.specs.declared.Change.{Change}
use Rattle.scene_defs.specs.declared.Change.TheVariants as change
use Rattle.scene_defs.specs.Change.{answer_of, scene_after}
use Rattle.scene_defs.specs.Place.{place}
use Rattle.scene_defs.specs.Scene.{Object, Scene, handles_of, is_there, new_object, object_at, path_at}
use Rattle.scene_defs.specs.Shown.{entries}
use Rattle.scene_defs.specs.Valid.{IsValid}
use Rattle.scene_defs.specs.Visible.{shown_trees}
use Rattle.scene_defs.proofs.Handles.{has-handles}
use Rattle.debt_defs.proofs.Inside.{among-handles}
use Rattle.debt_defs.proofs.SameTrees.{made-path}
use Rattle.gui_boxes.specs.Listing.{times}
use Rattle.gui_layout.specs.Solved.{AreSettled, place_at}
use Rattle.gui_layout.specs.declared.places.Places.{Places}
use Rattle.gui_boxes.proofs.These.{has-times, has_value}
use Rattle.gui_debts.specs.Sights.{KeepOthers}
use Rattle.gui_concerns.specs.declared.concerned.Concerned.{Concerned}
use Rattle.gui_concerns.specs.declared.concerned.Concerned.TheVariants.{Nobody}
use Rattle.gui_concerns.specs.declared.edit.Edit.TheVariants.{New}
use Rattle.gui_concerns.proofs.Changes.{after_is}
use Rattle.gui_debts.proofs.Sparing.{keeps, painted, painted-is}
use Rattle.gui_change.specs.Comes.{Comes}
use Rattle.gui_change.specs.Edits.{WasSeenEdited}
use Rattle.gui_change.specs.Entries.{all_entries, entry_in, owners}
use Rattle.gui_change.specs.Gone.{is_shown}
use Rattle.gui_change.specs.Marking.{MovesSame}
use Rattle.gui_change.specs.Settled.{LooksSame}
use Rattle.gui_change.specs.declared.scene_look.SceneLook.{SceneLook}
use Rattle.gui_change.specs.Shifted.{WasJoined}
use Rattle.gui_change.proofs.BarsStay.{bars-still}
use Rattle.gui_change.proofs.Comings.{Made, failed, made-new}
use Rattle.gui_change.proofs.Growing.{entries-fit, new-entries}
use Rattle.gui_change.proofs.Moves.{looks-on-path}
use Rattle.gui_change.proofs.Orders.{shown_there}
use Rattle.gui_change.proofs.Rooted.{ends_shown, shown-by}
use Rattle.gui_change.proofs.Joining.{gone-sight}
use Rattle.gui_change.proofs.Unchanged.{looks-hidden, panel-by}
use Rattle.gui_change.proofs.Unmoved.{limits-stay, parent-by-path, valid-after}

-- what is shown stands in the trees that are shown
pub shown-is : (scene : Scene) (k : ℕ) → is_shown scene k ≡ has (handles_of (shown_trees scene)) k
shown-is scene k = among-handles (shown_trees scene) k ∙ sym (has-handles (shown_trees scene) k)

module _ (old : Places) (look : SceneLook) (after : Scene) (made : Change) (concerned : Concerned) (removed : List ℕ) (h p : Handle) (was : WasSeenEdited old look after (New h p) made concerned removed) where
  abbrev before : Scene
  before = was.edited.was.before

  it : Made made h p
  it = made-new old after made concerned removed h p was.edited

  now : after ≡ scene_after before (change.New h p it.kind)
  now = was.edited.was.is ∙ (after_is before made was.edited.was.done ∙ ap (scene_after before) it.is)

  valid : IsValid after
  valid = valid-after old after made concerned was.edited.was

  -- all others keep their paths
  path : (k : ℕ) → eqb k h.0 ≡ false → path_at after k ≡ path_at before k
  path k other = ap (λ (s : Scene). path_at s k) now ∙ made-path before k p.0 (new_object h.0 it.kind) other

  -- and look the same
  looks : (k : ℕ) → eqb k h.0 ≡ false → LooksSame before after k
  looks k other =
      subst (λ (s : Scene). LooksSame before s k) (sym now)
      (looks-on-path before (scene_after before (change.New h p it.kind)).trees k (made-path before k p.0 (new_object h.0 it.kind) other))

  active : after.active ≡ before.active
  active = ap (λ (s : Scene). s.active) now

  -- it was not there
  was-new : is_there before h.0 ≡ false
  was-new =
      let t = failed before (change.New h p it.kind) (ap (answer_of before) (sym it.is) ∙ was.edited.was.done) in
      t.1.0

  was-other : (k : ℕ) → is_there before k ≡ true → eqb k h.0 ≡ false
  was-other k there = false_from_ne_true (eqb k h.0) (λ e. both_ways (is_there before h.0) was-new (subst (λ (j : ℕ). is_there before j ≡ true) (eqb-true k h.0 e) there))

  -- of all others the same are shown
  shown-same : (k : ℕ) → eqb k h.0 ≡ false → has (handles_of (shown_trees after)) k ≡ has (handles_of (shown_trees before)) k
  shown-same k other =
      shown-by after valid k
      ∙ (ap (λ (way : List Object). ends_shown way after.active) (path k other)
      ∙ (ap (ends_shown (path_at before k)) active ∙ sym (shown-by before was.edited.was.valid k)))

  was-there : (k : ℕ) → has (handles_of (shown_trees before)) k ≡ true → is_there before k ≡ true
  was-there k shown = shown_there before was.edited.was.valid k shown

  -- what was shown is shown still
  pub still : (k : ℕ) → 0 < times (owners look.entries.items) k → is_shown after k ≡ true
  still k some =
      let shown = has-times (owners look.entries.items) (handles_of (shown_trees before)) was.shows.order k some in
      shown-is after k ∙ (shown-same k (was-other k (was-there k shown)) ∙ shown)

  -- something is known of what was shown
  known : (k : ℕ) → is_some (value_at look.seen k) ≡ has (handles_of (shown_trees before)) k
  known k = has_value (owners look.entries.items) (handles_of (shown_trees before)) was.shows.order after.limits.objects look.seen was.shows.table k

  -- it is painted last in its parent
  pub entries-come : Comes h.0 p.0 (all_entries look.entries.items) (entries after)
  entries-come =
      subst (λ es. Comes h.0 p.0 es (entries after)) (sym was.shows.entries)
      (subst (λ (s : Scene). Comes h.0 p.0 (entries before) (entries s)) (sym now) (new-entries before was.edited.was.valid h p it.kind))

  pub entries-room : length look.entries.items + 2 ≤ vec_capacity look.entries
  entries-room =
      let t = failed before (change.New h p it.kind) (ap (answer_of before) (sym it.is) ∙ was.edited.was.done) in
      let fits = entries-fit before was.edited.was.valid h p it.kind (subst IsValid now valid) (not-false (is_there before p.0) t.0) in
      let same = ap (λ (s : Scene). s.limits.objects) now in
      let long = sym (length-map look.entries.items entry_in) ∙ ap length was.shows.entries in
      let room = was.shows.entries_room in
      omega (arith, fits, same, long, room)

  -- what is known of those that were shown is what they paint still, wherever they stand
  pub all-keep : KeepOthers look.seen Nobody after
  all-keep k s there off found =
      let same = looks k (was-other k (was-there k (sym (known k) ∙ ap is_some found))) in
      keeps before after k s (was.shows.seen k s found) (λ at.
      painted-is after (object_at after k) at ∙ (ap (λ (l : Option Look). painted l at) same.look ∙ sym (painted-is before (object_at before k) at)))

  -- what is shown for the first time is that object
  came : (k : ℕ) → is_shown after k ≡ true → value_at look.seen k ≡ None → k ≡ h.0
  came k is none = elim (cases_Bool (eqb k h.0)) [
    | inl same ↦ eqb-true k h.0 same
    | inr other ↦
        let shown : has (handles_of (shown_trees before)) k ≡ true = sym (shown-same k other) ∙ (sym (shown-is after k) ∙ is) in
        absurd (both_ways (is_some (value_at look.seen k)) (ap is_some none) (known k ∙ shown))
  ]

  -- what is known is another
  known-other : (k : ℕ) → is_some (value_at look.seen k) ≡ true → eqb k h.0 ≡ false
  known-other k some = was-other k (was-there k (sym (known k) ∙ some))

  module _ (new : Places) (moved : List Handle) (settled : AreSettled new after) (own : 0 < times moved h.0) (stays : (k : ℕ) → is_there after k ≡ true → times moved k ≡ 0 → place_at new k ≡ place_at old k)
      (scrolls : (k : ℕ) → is_there after k ≡ true → times moved k ≡ 0 → MovesSame old new k) where
    stands : (k : ℕ) → is_there after k ≡ true → times moved k ≡ 0 → place after k ≡ place before k
    stands k there off = sym (settled.solved k) ∙ (stays k there off ∙ was.edited.was.settled.solved k)

    -- so all that was shown stands and paints as before, but for what moved, and of the new one nothing was seen
    pub was-joined : (named : Option ℕ) → WasJoined look.seen after named Nobody moved
    was-joined named = record {
      was = record {
        before = before;
        valid = was.edited.was.valid;
        seen = was.shows.seen;
        stands = λ k some there off other. record {
          parents = parent-by-path before after k (path k (known-other k some));
          hides = looks-hidden before after k (looks k (known-other k some));
          stands = stands k there off;
          panel = panel-by before after active (limits-stay old after made concerned was.edited.was) k;
        };
        paints = λ k some there off other apart. record {
          looks = looks k (known-other k some);
          shows = bars-still before after old new was.edited.was.settled.reached settled.reached k (looks k (known-other k some)) (stands k there off) (scrolls k there off);
        };
      };
      unseen = λ k is none. gone-sight before was.edited.was.valid k (subst (λ (j : ℕ). is_there before j ≡ false) (sym (came k is none)) was-new);
      fresh = λ k is none. subst (λ (j : ℕ). 0 < times moved j) (sym (came k is none)) own;
    }
