-- A change by which a tree went: what did not go is shown as it was, and stands and paints as before where it did not move.
use Rattle.std.proofs.Common.{◌≡◌, ◌∙◌, sym, ap, subst, ℕ, ◌≤◌, true, false, not, ◌&&◌, eqb, List, [], Option, option_map, is_some, inl, inr, refl, arith}
use Rattle.std.proofs.lemmas.Bool.{both_ways, cases_Bool, false_from_ne_true}
use Rattle.gui_base.specs.Forest.{Forest, has, preorder, tree_at}
use Rattle.gui_base.specs.declared.Handle.{Handle}
use Rattle.gui_base.specs.declared.words.Part.TheVariants.{Main}
use Rattle.gui_base.proofs.Forests.{map-tree_by}
use Rattle.gui_pool.specs.Table.{value_at}
use Rattle.gui_tree.proofs.Parts.{distinct_once as handles-distinct}
use Rattle.gui_tree.specs.Handles.{numbers}
use Rattle.widget_defs.specs.Looks.{Look}
use Rattle.scene_defs.specs.declared.Change.{Change}
use Rattle.scene_defs.specs.declared.Change.TheVariants as change
use Rattle.scene_defs.specs.Change.{scene_after}
use Rattle.scene_defs.specs.Edits.{tree_below}
use Rattle.scene_defs.specs.Place.{place}
use Rattle.scene_defs.specs.Scene.{Object, Scene, handle_of, handles_of, is_there, object_at, path_at, row_of}
use Rattle.scene_defs.specs.Shown.{entries}
use Rattle.scene_defs.specs.Valid.{IsValid}
use Rattle.scene_defs.specs.Visible.{shown_trees}
use Rattle.scene_defs.proofs.Distinct.{distinct_once}
use Rattle.scene_defs.proofs.Handles.{has-handles}
use Rattle.debt_defs.specs.Concerns.{lies_in}
use Rattle.debt_defs.specs.SceneLook.{is_among}
use Rattle.debt_defs.proofs.Concerned.{look-alike}
use Rattle.debt_defs.proofs.Inside.{among-handles}
use Rattle.debt_defs.proofs.Moved.{lies-in-tree}
use Rattle.debt_defs.proofs.SameRows.{same-object}
use Rattle.debt_defs.proofs.SameTrees.{deleted-path, deleted-value}
use Rattle.gui_boxes.specs.Listing.{times}
use Rattle.gui_boxes.proofs.These.{has_value, times_is}
use Rattle.gui_layout.specs.Solved.{AreSettled, place_at}
use Rattle.gui_layout.specs.declared.places.Places.{Places}
use Rattle.gui_debts.specs.Sights.{KeepOthers}
use Rattle.gui_concerns.specs.declared.concerned.Concerned.{Concerned}
use Rattle.gui_concerns.specs.declared.concerned.Concerned.TheVariants.{Nobody}
use Rattle.gui_concerns.specs.declared.edit.Edit.TheVariants.{Gone}
use Rattle.gui_concerns.proofs.Changes.{after_is}
use Rattle.gui_debts.proofs.Sparing.{keeps, painted, painted-is}
use Rattle.gui_change.specs.Edits.{WasEdited, WasSeenEdited}
use Rattle.gui_change.specs.Entries.{all_entries, owners}
use Rattle.gui_change.specs.Goes.{Goes}
use Rattle.gui_change.specs.Gone.{is_shown}
use Rattle.gui_change.specs.Marking.{MovesSame}
use Rattle.gui_change.specs.Settled.{LooksSame}
use Rattle.gui_change.specs.declared.scene_look.SceneLook.{SceneLook}
use Rattle.gui_change.proofs.Arrived.{shown-is}
use Rattle.gui_change.specs.Shifted.{WasShifted}
use Rattle.gui_change.proofs.BarsStay.{bars-still}
use Rattle.gui_change.proofs.Comings.{Deleted, made-gone}
use Rattle.gui_change.proofs.Leaving.{cut-apart, entries-left, trees-cut}
use Rattle.gui_change.proofs.Lessened.{and-false, and-true}
use Rattle.gui_change.proofs.Orders.{shown_there}
use Rattle.gui_change.proofs.Rooted.{ends_shown, shown-by}
use Rattle.gui_change.proofs.ShownTrees.{count-tree}
use Rattle.gui_change.proofs.Unchanged.{looks-hidden, panel-by}
use Rattle.gui_change.proofs.Unmoved.{limits-stay, parent-by-path, valid-after}

module _ (old : Places) (after : Scene) (made : Change) (concerned : Concerned) (removed : List ℕ) (parent : Option Handle) (edited : WasEdited old after (Gone parent) made concerned removed) where
  abbrev before : Scene
  before = edited.was.before

  it : Deleted made before parent
  it = made-gone old after made concerned removed parent edited

  abbrev h : ℕ
  h = it.top.0

  abbrev f : Forest ℕ
  f = handles_of before.trees

  now : after ≡ scene_after before (change.Delete it.top)
  now = edited.was.is ∙ (after_is before made edited.was.done ∙ ap (scene_after before) it.is)

  valid : IsValid after
  valid = valid-after old after made concerned edited.was

  -- the handles that were removed
  removed-is : removed ≡ preorder (tree_at f h)
  removed-is = edited.gone it.top it.is ∙ ap (λ (t : Forest ℕ). preorder t) (map-tree_by handle_of (λ k. eqb k h) before.trees)

  among-is : (k : ℕ) → is_among removed k ≡ has (tree_at f h) k
  among-is k =
      ap (λ (ns : List ℕ). is_among ns k) (edited.gone it.top it.is)
      ∙ (among-handles (tree_below before h) k
      ∙ (sym (has-handles (tree_below before h) k) ∙ ap (λ (t : Forest ℕ). has t k) (map-tree_by handle_of (λ j. eqb j h) before.trees)))

  pub removed-once : (gone : List Handle) → numbers gone ≡ removed → (k : ℕ) → times gone k ≤ 1
  removed-once gone is k =
      let a = times_is gone (tree_at f h) (is ∙ removed-is) k in
      let b = count-tree h k f in
      let c = edited.was.valid.trees.once k in
      omega (arith, a, b, c)

  -- they are there no longer
  went : (k : ℕ) → is_among removed k ≡ true → is_there after k ≡ false
  went k among =
      ap (λ (s : Scene). is_there s k) now
      ∙ (ap (λ (t : Forest ℕ). has t k) (trees-cut before edited.was.valid it.top)
      ∙ cut-apart f h k (handles-distinct f edited.was.valid.trees.once) (sym (among-is k) ∙ among))

  -- and what is there is none of them
  pub stayed : (k : ℕ) → is_there after k ≡ true → is_among removed k ≡ false
  stayed k there = false_from_ne_true (is_among removed k) (λ among. both_ways (is_there after k) (went k among) there)

  lies-off : (k : ℕ) → is_among removed k ≡ false → lies_in before h k ≡ false
  lies-off k off = false_from_ne_true (lies_in before h k) (λ lies.
      both_ways (is_among removed k) off
      (ap (λ (ns : List ℕ). is_among ns k) (edited.gone it.top it.is)
      ∙ (among-handles (tree_below before h) k ∙ lies-in-tree h k [] before.trees (distinct_once before.trees edited.was.valid.trees.once) refl lies)))

  -- all others keep their paths
  path : (k : ℕ) → is_among removed k ≡ false → path_at after k ≡ path_at before k
  path k off = ap (λ (s : Scene). path_at s k) now ∙ deleted-path before h k (lies-off k off)

  -- and look the same
  looks : (k : ℕ) → is_among removed k ≡ false → LooksSame before after k
  looks k off =
      let left = scene_after before (change.Delete it.top) in
      let out = lies-off k off in
      let same : object_at left k ≡ object_at before k = same-object before left k (deleted-path before h k out) in
      subst (λ (s : Scene). LooksSame before s k) (sym now) (record {
        row = ap (option_map row_of) same;
        look = look-alike before left k refl refl same (deleted-value before edited.was.valid h k out);
        values = deleted-value before edited.was.valid h k out Main;
      })

  active : after.active ≡ before.active
  active = ap (λ (s : Scene). s.active) now

  -- of all others the same are shown
  shown-same : (k : ℕ) → is_among removed k ≡ false → has (handles_of (shown_trees after)) k ≡ has (handles_of (shown_trees before)) k
  shown-same k off =
      shown-by after valid k
      ∙ (ap (λ (way : List Object). ends_shown way after.active) (path k off)
      ∙ (ap (ends_shown (path_at before k)) active ∙ sym (shown-by before edited.was.valid k)))

module _ (old : Places) (look : SceneLook) (after : Scene) (made : Change) (concerned : Concerned) (removed : List ℕ) (parent : Option Handle) (was : WasSeenEdited old look after (Gone parent) made concerned removed) where
  abbrev earlier : Scene
  earlier = was.edited.was.before

  -- something is known of what was shown
  known : (k : ℕ) → is_some (value_at look.seen k) ≡ has (handles_of (shown_trees earlier)) k
  known k = has_value (owners look.entries.items) (handles_of (shown_trees earlier)) was.shows.order after.limits.objects look.seen was.shows.table k

  -- what is shown was shown and did not go
  pub left-shown : (k : ℕ) → is_shown after k ≡ (is_some (value_at look.seen k) && not (is_among removed k))
  left-shown k = elim (cases_Bool (is_among removed k)) [
    | inl among ↦
        let hidden : has (handles_of (shown_trees after)) k ≡ false = false_from_ne_true (has (handles_of (shown_trees after)) k) (λ shown.
        both_ways (is_there after k) (went old after made concerned removed parent was.edited k among) (shown_there after (valid old after made concerned removed parent was.edited) k shown)) in
        shown-is after k ∙ (hidden ∙ sym (rw among (and-false (is_some (value_at look.seen k)))))
    | inr off ↦
        shown-is after k
        ∙ (shown-same old after made concerned removed parent was.edited k off ∙ (sym (known k) ∙ sym (rw off (and-true (is_some (value_at look.seen k))))))
  ]

  -- its part of what is painted is taken out
  pub entries-go : (g : Handle) → made ≡ change.Delete g → Goes g.0 (all_entries look.entries.items) (entries after)
  entries-go g is =
      let now : after ≡ scene_after earlier (change.Delete g) = was.edited.was.is ∙ (after_is earlier made was.edited.was.done ∙ ap (scene_after earlier) is) in
      subst (λ es. Goes g.0 es (entries after)) (sym was.shows.entries)
      (subst (λ (s : Scene). Goes g.0 (entries earlier) (entries s)) (sym now) (entries-left earlier was.edited.was.valid g))

  -- what is known of those that are there is what they paint still, wherever they stand
  pub all-keep : KeepOthers look.seen Nobody after
  all-keep k s there off found =
      let same = looks old after made concerned removed parent was.edited k (stayed old after made concerned removed parent was.edited k there) in
      keeps earlier after k s (was.shows.seen k s found) (λ at.
      painted-is after (object_at after k) at ∙ (ap (λ (l : Option Look). painted l at) same.look ∙ sym (painted-is earlier (object_at earlier k) at)))

  module _ (new : Places) (moved : List Handle) (settled : AreSettled new after) (stays : (k : ℕ) → is_there after k ≡ true → times moved k ≡ 0 → place_at new k ≡ place_at old k)
      (scrolls : (k : ℕ) → is_there after k ≡ true → times moved k ≡ 0 → MovesSame old new k) where
    same-looks : (k : ℕ) → is_there after k ≡ true → LooksSame earlier after k
    same-looks k there = looks old after made concerned removed parent was.edited k (stayed old after made concerned removed parent was.edited k there)

    stands : (k : ℕ) → is_there after k ≡ true → times moved k ≡ 0 → place after k ≡ place earlier k
    stands k there off = sym (settled.solved k) ∙ (stays k there off ∙ was.edited.was.settled.solved k)

    -- so all that is left stands and paints as before, but for what moved
    pub was-shifted : (named : Option ℕ) → WasShifted look.seen after named Nobody moved
    was-shifted named = record {
      before = earlier;
      valid = was.edited.was.valid;
      seen = was.shows.seen;
      stands = λ k some there off other. record {
        parents = parent-by-path earlier after k (path old after made concerned removed parent was.edited k (stayed old after made concerned removed parent was.edited k there));
        hides = looks-hidden earlier after k (same-looks k there);
        stands = stands k there off;
        panel = panel-by earlier after (active old after made concerned removed parent was.edited) (limits-stay old after made concerned was.edited.was) k;
      };
      paints = λ k some there off other apart. record {
        looks = same-looks k there;
        shows = bars-still earlier after old new was.edited.was.settled.reached settled.reached k (same-looks k there) (stands k there off) (scrolls k there off);
      };
    }
