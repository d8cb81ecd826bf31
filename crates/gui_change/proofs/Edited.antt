-- What an object that came, and a tree that went or went below another parent, leave to be settled.
use Rattle.std.proofs.Common.{◌≡◌, ◌∙◌, ◌<◌, ◌≤◌, ◌+◌, refl, sym, ap, subst, ℕ, true, false, eqb, eq-eqb, List, [], length, Option, Some, None, option_map, inl, inr, arith}
use Rattle.std.proofs.lemmas.Bool.{cases_Bool, both_ways, eqb-true, false≢true, false_from_ne_true, not-false, or_left, or_parts}
use Rattle.gui_base.specs.Forest.{Forest, Empty, StandsOnce, Tree, cut, has, leaf, parent_of, preorder, size, tree_at}
use Rattle.gui_base.specs.Limits.{Bounds}
use Rattle.gui_base.specs.declared.Handle.{Handle}
use Rattle.gui_base.proofs.Forests.{map-cut_by, map-tree_by}
use Rattle.gui_pool.specs.Table.{value_at}
use Rattle.gui_tree.specs.Handles.{as_handle}
use Rattle.scene_defs.specs.declared.Change.{Change}
use Rattle.scene_defs.specs.declared.Change.TheVariants as change
use Rattle.scene_defs.specs.Change.{answer_of, scene_after}
use Rattle.scene_defs.specs.Edits.{below}
use Rattle.scene_defs.specs.Scene.{Scene, handle_of, handles_of, is_there, new_object}
use Rattle.scene_defs.proofs.Distinct.{distinct_once, there}
use Rattle.scene_defs.proofs.Handles.{has-handles}
use Rattle.debt_defs.specs.Concerns.{lies_in}
use Rattle.debt_defs.specs.SceneLook.{is_among}
use Rattle.debt_defs.proofs.Inside.{there-tree}
use Rattle.debt_defs.proofs.Moved.{IsTreeAt, lies-in-tree}
use Rattle.gui_layout.specs.Marked.{is_root}
use Rattle.gui_boxes.specs.Marks.{is_changed, is_marked, is_parent}
use Rattle.gui_layout.specs.SettledBut.{AreSettledButMarks}
use Rattle.gui_boxes.specs.declared.marks.Marks.{Marks}
use Rattle.gui_layout.specs.declared.places.Places.{Places}
use Rattle.gui_layout.proofs.Entering.{few}
use Rattle.gui_boxes.proofs.Pendings.{any-part}
use Rattle.gui_boxes.proofs.These.{length-preorder}
use Rattle.gui_concerns.specs.Concerned.{is_below}
use Rattle.gui_change.specs.Edits.{WasEdited}
use Rattle.gui_concerns.specs.Edits.{beside, edit_of}
use Rattle.gui_concerns.specs.declared.concerned.Concerned.{Concerned}
use Rattle.gui_concerns.specs.declared.edit.Edit.TheVariants.{Gone, New, Reparented}
use Rattle.gui_tree.proofs.Paths.{children_gone}
use Rattle.gui_concerns.proofs.Changes.{after_is}
use Rattle.gui_change.proofs.Comings.{Deleted, Made, failed, made-gone, made-new}
use Rattle.gui_change.proofs.Kids.{parent-child}
use Rattle.gui_concerns.proofs.Marked.{in-tree}
use Rattle.gui_change.proofs.Orders.{root_there}
use Rattle.gui_concerns.proofs.Lists.{some-size}
use Rattle.gui_concerns.proofs.Parents.{moved-off, put-there}
use Rattle.gui_change.proofs.Unmoved.{keeps, limits-stay, new-told, removed-told, reparented-told, there-with, valid-after}

-- what is marked and has not changed has other children
pub other-kids : (marks : Marks) (k : ℕ) → is_marked marks k ≡ true → is_changed marks k ≡ false → is_parent marks k ≡ true
other-kids marks k is un = any-part (value_at marks.pending k) is un

module _ (places : Places) (after : Scene) (made : Change) (concerned : Concerned) (removed : List ℕ) (h p : Handle) (was : WasEdited places after (New h p) made concerned removed) where
  it : Made made h p
  it = made-new places after made concerned removed h p was

  -- both are there
  now : after ≡ scene_after was.was.before (change.New h p it.kind)
  now = was.was.is ∙ (after_is was.was.before made was.was.done ∙ ap (scene_after was.was.before) it.is)

  parent-was : there was.was.before.trees p.0 ≡ true
  parent-was =
      let t = failed was.was.before (change.New h p it.kind) (ap (answer_of was.was.before) (sym it.is) ∙ was.was.done) in
      sym (has-handles was.was.before.trees p.0) ∙ not-false (has (handles_of was.was.before.trees) p.0) t.0

  new-leaf : IsTreeAt h.0 (leaf (new_object h.0 it.kind))
  new-leaf = record { object = new_object h.0 it.kind; children = Empty; tree = refl; named = eq-eqb h.0 h.0 refl }

  pub new-there : is_there after h.0 ≡ true
  new-there =
      ap (λ (s : Scene). is_there s h.0) now
      ∙ (has-handles (scene_after was.was.before (change.New h p it.kind)).trees h.0
      ∙ put-there h.0 h.0 p.0 (leaf (new_object h.0 it.kind)) new-leaf (or_left _ _ (eq-eqb h.0 h.0 refl)) was.was.before.trees parent-was)

  pub parent-there : is_there after p.0 ≡ true
  parent-there =
      ap (λ (s : Scene). is_there s p.0) now
      ∙ (has-handles (scene_after was.was.before (change.New h p it.kind)).trees p.0 ∙ there-with p.0 p.0 (leaf (new_object h.0 it.kind)) was.was.before.trees parent-was)

  -- where both are marked, the places are right but for the marks
  pub new-right : (marks : Marks) → is_changed marks h.0 ≡ true → is_marked marks p.0 ≡ true → AreSettledButMarks places after (is_changed marks) (is_parent marks)
  new-right marks own above =
      new-told places after made concerned was.was (is_changed marks) (is_parent marks) h p it.kind it.is
      (λ k un. false_from_ne_true (eqb k h.0) (λ e. both_ways (is_changed marks k) un (subst (λ j. is_changed marks j ≡ true) (sym (eqb-true k h.0 e)) own)))
      (λ k un none. false_from_ne_true (eqb k p.0) (λ e. both_ways (is_parent marks k) none (other-kids marks k (subst (λ j. is_marked marks j ≡ true) (sym (eqb-true k p.0 e)) above) un)))

-- Trees that are cut out.
cut-small : (h : ℕ) (f : Forest ℕ) → size (cut f h) ≤ size f
cut-small h Empty = omega arith
cut-small h (Tree t cs rest) = elim (cases_Bool (eqb t h)) [
  | inl is ↦ rw is (omega (arith, cut-small h rest))
  | inr isnt ↦ rw isnt (omega (arith, cut-small h cs, cut-small h rest))
]

cut-sizes : (h : ℕ) (f : Forest ℕ) → size (tree_at f h) + size (cut f h) ≤ size f
cut-sizes h Empty = omega arith
cut-sizes h (Tree t cs rest) = elim (cases_Bool (eqb t h)) [
  | inl is ↦ rw is (omega (arith, cut-small h rest))
  | inr isnt ↦ elim (cases_Bool (has cs h)) [
    | inl inner ↦ rw (isnt, inner) (omega (arith, cut-sizes h cs, cut-small h rest))
    | inr outer ↦ rw (isnt, outer) (omega (arith, cut-small h cs, cut-sizes h rest))
  ]
]

module _ (places : Places) (after : Scene) (made : Change) (concerned : Concerned) (removed : List ℕ) (parent : Option Handle) (was : WasEdited places after (Gone parent) made concerned removed) where
  gone : Deleted made was.was.before parent
  gone = made-gone places after made concerned removed parent was

  -- fewer went than there may be
  pub removed-few : length removed < after.limits.objects
  removed-few =
      let before = was.was.before in
      let h = gone.top.0 in
      let f = handles_of before.trees in
      let is : removed ≡ below before h = was.gone gone.top gone.is in
      let now : after ≡ scene_after before (change.Delete gone.top) = was.was.is ∙ (after_is before made was.was.done ∙ ap (scene_after before) gone.is) in
      let trees : handles_of after.trees ≡ cut f h = ap (λ (s : Scene). handles_of s.trees) now ∙ map-cut_by handle_of (λ k. eqb k h) before.trees in
      let long : length removed ≡ size (tree_at f h) =
      ap length is ∙ (ap (λ (t : Forest ℕ). length (preorder t)) (map-tree_by handle_of (λ k. eqb k h) before.trees) ∙ length-preorder (tree_at f h)) in
      let valid = valid-after places after made concerned was.was in
      let left : 0 < size (cut f h) = subst (λ (t : Forest ℕ). 0 < size t) trees (some-size 1 (handles_of after.trees) (root_there after valid 1 valid.trees.top_layer)) in
      let sizes = cut-sizes h f in
      let fit = few before was.was.valid in
      let same : after.limits.objects ≡ before.limits.objects = ap (λ (b : Bounds). b.objects) (limits-stay places after made concerned was.was) in
      omega arith

  -- where all that went is marked, and the parent, the places are right but for the marks
  pub gone-right : (marks : Marks) → ((k : ℕ) → is_changed marks k ≡ is_among removed k) → ((p : Handle) → parent ≡ Some p → is_marked marks p.0 ≡ true) → AreSettledButMarks places after (is_changed marks) (is_parent marks)
  gone-right marks all above =
      removed-told places after made concerned was.was (is_changed marks) (is_parent marks) gone.top gone.is
      (λ k un. ap (λ hs. is_among hs k) (sym (was.gone gone.top gone.is)) ∙ (sym (all k) ∙ un))
      (λ k un none up. both_ways (is_parent marks k) none (other-kids marks k (above (as_handle k) (gone.above ∙ ap (option_map as_handle) up)) un))

-- The tree at h went below another parent by this change, and its parent, if it had one, was this.
pub record Reparents (made : Change) (before : Scene) (h : Handle) (old : Option Handle) (new : Handle) : Type 0 where
  pub is : made ≡ change.Parent h new
  pub above : old ≡ option_map as_handle (parent_of (handles_of before.trees) h.0)

-- a tree that goes elsewhere among its siblings keeps its parent
none-reparented : {h new : Handle} {old : Option Handle} (above : Option Handle) → Reparented h old new ≡ beside above → ⊥
none-reparented None e = cc
none-reparented (Some p) e = cc

-- the parent, told by its handle
above-is : (above : Option ℕ) (p : Handle) → option_map as_handle above ≡ Some p → above ≡ Some p.0
above-is None p e = cc
above-is (Some k) p e = let same : as_handle k ≡ p = cc in ap (λ (g : Handle). Some g.0) same

-- a parent is there
parent-in : (f : Forest ℕ) (h k : ℕ) → StandsOnce f → parent_of f h ≡ Some k → has f k ≡ true
parent-in f h k once above = elim (cases_Bool (has f k)) [
  | inl there ↦ there
  | inr gone ↦ absurd (false≢true (ap (is_root h) (sym (children_gone f k gone)) ∙ parent-child f h k once above))
]

module _ (places : Places) (after : Scene) (made : Change) (concerned : Concerned) (removed : List ℕ) (h : Handle) (old : Option Handle) (new : Handle) (was : WasEdited places after (Reparented h old new) made concerned removed) where
  pub reparents : Reparents made was.was.before h old new
  reparents = by made refl was.does where
    by : (c : Change) → made ≡ c → Reparented h old new ≡ edit_of was.was.before c → Reparents made was.was.before h old new
    by (change.Parent g p) same is =
        let it : g ≡ h = cc in
        let to : p ≡ new = cc in
        let from : old ≡ option_map as_handle (parent_of (handles_of was.was.before.trees) g.0) = cc in
        record {
          is = same ∙ (ap (λ (d : Handle). change.Parent d p) it ∙ ap (λ (q : Handle). change.Parent h q) to);
          above = from ∙ ap (λ (d : Handle). option_map as_handle (parent_of (handles_of was.was.before.trees) d.0)) it;
        }
    by (change.Index g n) same is = absurd (none-reparented _ is)
    by (change.Front g) same is = absurd (none-reparented _ is)
    by (change.Back g) same is = absurd (none-reparented _ is)
    by c same is = cc

  -- what was there is there
  stay : (k : ℕ) → is_there was.was.before k ≡ true → is_there after k ≡ true
  stay = (keeps places after (Reparented h old new) made concerned removed was refl).stay

  -- both parents are there
  pub old-parent-there : (p : Handle) → old ≡ Some p → is_there after p.0 ≡ true
  old-parent-there p is =
      let f = handles_of was.was.before.trees in
      stay p.0 (parent-in f h.0 p.0 was.was.valid.trees.once (above-is (parent_of f h.0) p (sym reparents.above ∙ is)))

  pub new-parent-there : is_there after new.0 ≡ true
  new-parent-there =
      let t = failed was.was.before (change.Parent h new) (ap (answer_of was.was.before) (sym reparents.is) ∙ was.was.done) in
      stay new.0 (not-false (is_there was.was.before new.0) t.1.0)

  -- what is not in the tree at h was not in it
  pub was-off : (k : ℕ) → has (tree_at (handles_of after.trees) h.0) k ≡ false → lies_in was.was.before h.0 k ≡ false
  was-off k off = false_from_ne_true (lies_in was.was.before h.0 k) (λ lies.
      let before = was.was.before in
      let f = before.trees in
      let d = distinct_once f was.was.valid.trees.once in
      let part = lies-in-tree h.0 k [] f d refl lies in
      let now : after ≡ scene_after before (change.Parent h new) = was.was.is ∙ (after_is before made was.was.done ∙ ap (scene_after before) reparents.is) in
      let there_now : is_there after k ≡ true = stay k (has-handles f k ∙ (there-tree f h.0 k part).1) in
      let below : is_below after h.0 k ≡ false = rw there_now at (sym (in-tree after (valid-after places after made concerned was.was) k h) ∙ off) in
      let out = moved-off before h.0 k new.0 was.was.valid (sym (has-handles (scene_after before (change.Parent h new)).trees k) ∙ (ap (λ (s : Scene). is_there s k) (sym now) ∙ there_now)) (ap (λ (s : Scene). lies_in s h.0 k) (sym now) ∙ (or_parts _ _ below).1) in
      both_ways (lies_in before h.0 k) out lies)

  -- where all in the tree is marked, and both parents, the places are right but for the marks
  pub reparented-right : (marks : Marks) → ((k : ℕ) → is_changed marks k ≡ has (tree_at (handles_of after.trees) h.0) k) → ((p : Handle) → old ≡ Some p → is_marked marks p.0 ≡ true) → is_marked marks new.0 ≡ true → AreSettledButMarks places after (is_changed marks) (is_parent marks)
  reparented-right marks all from to =
      reparented-told places after made concerned was.was (is_changed marks) (is_parent marks) h new reparents.is
      (λ k un. was-off k (sym (all k) ∙ un))
      (λ k un none up. both_ways (is_parent marks k) none (other-kids marks k (from (as_handle k) (reparents.above ∙ ap (option_map as_handle) up)) un))
      (λ k un none. false_from_ne_true (eqb k new.0) (λ e. both_ways (is_parent marks k) none (other-kids marks k (subst (λ j. is_marked marks j ≡ true) (sym (eqb-true k new.0 e)) to) un)))
