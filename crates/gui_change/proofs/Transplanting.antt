-- A change by which a tree went below another parent: where it was shown and is shown, the same is shown, and what did not
-- move stands and paints as before.
use Rattle.std.proofs.Common.{◌≡◌, ◌∙◌, refl, sym, ap, subst, ℕ, ◌<◌, true, false, eqb, [], List, Option, is_some, inl, inr, arith}
use Rattle.std.proofs.lemmas.Bool.{both_ways, cases_Bool, false_from_ne_true, not-false}
use Rattle.gui_base.specs.Forest.{Forest, has, tree_at}
use Rattle.gui_base.specs.declared.Handle.{Handle}
use Rattle.gui_base.proofs.Forests.{map-tree_by}
use Rattle.gui_boxes.specs.Listing.{times}
use Rattle.gui_boxes.proofs.These.{has_value}
use Rattle.gui_pool.specs.Table.{value_at}
use Rattle.gui_tree.specs.Handles.{numbers}
use Rattle.scene_defs.specs.declared.Change.{Change}
use Rattle.scene_defs.specs.declared.Change.TheVariants as change
use Rattle.scene_defs.specs.Change.{answer_of, scene_after}
use Rattle.scene_defs.specs.Place.{place}
use Rattle.scene_defs.specs.Scene.{Object, Scene, handle_of, handles_of, is_there, path_at}
use Rattle.scene_defs.specs.Shown.{order}
use Rattle.scene_defs.specs.Valid.{IsValid}
use Rattle.scene_defs.specs.Visible.{shown_trees}
use Rattle.scene_defs.proofs.Distinct.{distinct_once}
use Rattle.scene_defs.proofs.Handles.{has-handles}
use Rattle.debt_defs.specs.Concerns.{lies_in}
use Rattle.debt_defs.proofs.Moved.{lies-in-tree}
use Rattle.gui_layout.specs.Solved.{AreSettled, place_at}
use Rattle.gui_layout.specs.declared.places.Places.{Places}
use Rattle.gui_concerns.specs.declared.concerned.Concerned.{Concerned}
use Rattle.gui_concerns.specs.declared.concerned.Concerned.TheVariants.{Nobody}
use Rattle.gui_concerns.specs.declared.edit.Edit.TheVariants.{Reparented}
use Rattle.gui_concerns.proofs.Changes.{after_is}
use Rattle.gui_change.specs.Entries.{owners}
use Rattle.gui_change.specs.Again.{AreAlike}
use Rattle.gui_change.specs.Edits.{WasSeenEdited}
use Rattle.gui_change.specs.Gone.{is_shown}
use Rattle.gui_change.specs.Marking.{MovesSame}
use Rattle.gui_change.specs.Settled.{LooksSame}
use Rattle.gui_change.specs.Shifted.{WasShifted}
use Rattle.gui_change.specs.declared.scene_look.SceneLook.{SceneLook}
use Rattle.gui_change.proofs.Arrived.{shown-is}
use Rattle.gui_change.proofs.BarsStay.{bars-still}
use Rattle.gui_change.proofs.Comings.{failed}
use Rattle.gui_change.proofs.Edited.{Reparents, reparents, was-off}
use Rattle.gui_change.proofs.Moves.{looks-on-path}
use Rattle.gui_change.proofs.Rooted.{ends_shown, shown-alike, shown-by}
use Rattle.gui_change.proofs.ShownTrees.{shown-below}
use Rattle.gui_change.proofs.Unchanged.{looks-hidden, panel-by}
use Rattle.gui_change.proofs.Unmoved.{limits-stay, moved-path, parent-by-path, valid-after}

module _ (old : Places) (look : SceneLook) (after : Scene) (made : Change) (concerned : Concerned) (removed : List ℕ) (h : Handle) (from : Option Handle) (to : Handle) (was : WasSeenEdited old look after (Reparented h from to) made concerned removed) where
  abbrev before : Scene
  before = was.edited.was.before

  it : Reparents made before h from to
  it = reparents old after made concerned removed h from to was.edited

  now : after ≡ scene_after before (change.Parent h to)
  now = was.edited.was.is ∙ (after_is before made was.edited.was.done ∙ ap (scene_after before) it.is)

  valid : IsValid after
  valid = valid-after old after made concerned was.edited.was

  top : is_there before h.0 ≡ true
  top =
      let t = failed before (change.Parent h to) (ap (answer_of before) (sym it.is) ∙ was.edited.was.done) in
      not-false (is_there before h.0) t.0

  -- what does not lie in the tree keeps its path
  path : (k : ℕ) → lies_in before h.0 k ≡ false → path_at after k ≡ path_at before k
  path k off = ap (λ (s : Scene). path_at s k) now ∙ moved-path before h.0 to.0 k was.edited.was.valid top off

  -- and looks the same
  looks : (k : ℕ) → lies_in before h.0 k ≡ false → LooksSame before after k
  looks k off =
      subst (λ (s : Scene). LooksSame before s k) (sym now)
      (looks-on-path before (scene_after before (change.Parent h to)).trees k (moved-path before h.0 to.0 k was.edited.was.valid top off))

  active : after.active ≡ before.active
  active = ap (λ (s : Scene). s.active) now

  -- and is shown where it was
  shown-off : (k : ℕ) → lies_in before h.0 k ≡ false → has (handles_of (shown_trees after)) k ≡ has (handles_of (shown_trees before)) k
  shown-off k off =
      shown-by after valid k
      ∙ (ap (λ (way : List Object). ends_shown way after.active) (path k off)
      ∙ (ap (ends_shown (path_at before k)) active ∙ sym (shown-by before was.edited.was.valid k)))

  inside : (k : ℕ) → lies_in before h.0 k ≡ true → has (tree_at (handles_of before.trees) h.0) k ≡ true
  inside k lies =
      let part = lies-in-tree h.0 k [] before.trees (distinct_once before.trees was.edited.was.valid.trees.once) refl lies in
      sym (ap (λ (f : Forest ℕ). has f k) (map-tree_by handle_of (λ j. eqb j h.0) before.trees)) ∙ (has-handles _ k ∙ part)

  module _ (was-known : is_some (value_at look.seen h.0) ≡ true) (shown : is_shown after h.0 ≡ true) where
    was-shown : has (handles_of (shown_trees before)) h.0 ≡ true
    was-shown = sym (has_value (owners look.entries.items) (handles_of (shown_trees before)) was.shows.order after.limits.objects look.seen was.shows.table h.0) ∙ was-known

    shown-same : (k : ℕ) → has (handles_of (shown_trees after)) k ≡ has (handles_of (shown_trees before)) k
    shown-same k = elim (cases_Bool (lies_in before h.0 k)) [
      | inl lies ↦ elim (cases_Bool (has (tree_at (handles_of after.trees) h.0) k)) [
        | inl still ↦
            shown-below after valid h.0 k (sym (shown-is after h.0) ∙ shown) still
            ∙ sym (shown-below before was.edited.was.valid h.0 k was-shown (inside k lies))
        | inr off ↦ absurd (both_ways (lies_in before h.0 k) (was-off old after made concerned removed h from to was.edited k off) lies)
      ]
      | inr off ↦ shown-off k off
    ]

    -- the same objects are listed
    pub listed-same : (hs : List Handle) → numbers hs ≡ order after → AreAlike (owners look.entries.items) hs
    listed-same hs listed = shown-alike before after (owners look.entries.items) hs was.edited.was.valid valid was.shows.order listed shown-same

  module _ (new : Places) (moved : List Handle) (settled : AreSettled new after) (below : (k : ℕ) → is_there after k ≡ true → has (tree_at (handles_of after.trees) h.0) k ≡ true → 0 < times moved k)
      (stays : (k : ℕ) → is_there after k ≡ true → times moved k ≡ 0 → place_at new k ≡ place_at old k) (scrolls : (k : ℕ) → is_there after k ≡ true → times moved k ≡ 0 → MovesSame old new k) where
    out : (k : ℕ) → is_there after k ≡ true → times moved k ≡ 0 → lies_in before h.0 k ≡ false
    out k there off =
        was-off old after made concerned removed h from to was.edited k
        (false_from_ne_true (has (tree_at (handles_of after.trees) h.0) k) (λ own. let some = below k there own in omega (arith, some, off)))

    stands : (k : ℕ) → is_there after k ≡ true → times moved k ≡ 0 → place after k ≡ place before k
    stands k there off = sym (settled.solved k) ∙ (stays k there off ∙ was.edited.was.settled.solved k)

    -- all but the moved stand and paint as before
    pub was-shifted : (named : Option ℕ) → WasShifted look.seen after named Nobody moved
    was-shifted named = record {
      before = before;
      valid = was.edited.was.valid;
      seen = was.shows.seen;
      stands = λ k some there off other. record {
        parents = parent-by-path before after k (path k (out k there off));
        hides = looks-hidden before after k (looks k (out k there off));
        stands = stands k there off;
        panel = panel-by before after active (limits-stay old after made concerned was.edited.was) k;
      };
      paints = λ k some there off other apart. record {
        looks = looks k (out k there off);
        shows = bars-still before after old new was.edited.was.settled.reached settled.reached k (looks k (out k there off)) (stands k there off) (scrolls k there off);
      };
    }
