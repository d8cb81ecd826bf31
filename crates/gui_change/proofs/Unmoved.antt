-- What does not move in a change: what it does not concern, and all where layout does not go by what it sets.
use Rattle.std.proofs.Common.{◌≡◌, ◌∙◌, refl, sym, ap, subst, ℕ, Bool, true, false, eqb, List, [], Option, Some, None, option_map, is_some, inl, inr, arith}
use Rattle.std.specs.List.{list_any}
use Rattle.std.proofs.lemmas.Bool.{cases_Bool, both_ways, false≢true, false_from_ne_true, eqb-true, not-false, or_from, or_parts}
use Rattle.std.proofs.lemmas.Bool.Decides.{nat_tests}
use Rattle.gui_base.specs.Forest.{Forest, Empty, Tree, and_then, children_of, cut_by, has, leaf, parent_of, path_by, roots, tree_by, with_children_by}
use Rattle.gui_base.specs.declared.Handle.{Handle}
use Rattle.gui_base.specs.declared.refusal.Refusal.{Refusal}
use Rattle.gui_base.specs.declared.words.Kind.{Kind}
use Rattle.gui_base.specs.declared.words.Kind.TheVariants.{Screen}
use Rattle.gui_base.proofs.Forests.{map-tree_by}
use Rattle.gui_pool.specs.Table.{value_at}
use Rattle.scene_defs.specs.declared.Change.{Change}
use Rattle.scene_defs.specs.declared.Change.TheVariants as change
use Rattle.scene_defs.specs.declared.Row.{Row}
use Rattle.scene_defs.specs.Change.{answer_of, asset_change_in, changed, scene_after, scene_by, styling_in, tests}
use Rattle.scene_defs.specs.Deeds.{setter_of}
use Rattle.scene_defs.specs.Edits.{below, moved_last, tree_below}
use Rattle.scene_defs.specs.Scene.{Object, Scene, handle_of, handles_of, is_at, is_there, new_object, path_at, row_at, row_of}
use Rattle.scene_defs.specs.Valid.{IsValid}
use Rattle.scene_defs.proofs.Changes.{Fail, change_keeps_limits}
use Rattle.scene_defs.proofs.Distinct.{distinct_once, there, there-and_then}
use Rattle.scene_defs.proofs.Handles.{has-handles}
use Rattle.scene_defs.proofs.RowKinds.{depth-cut}
use Rattle.scene_defs.proofs.Validity.{change_keeps_valid}
use Rattle.debt_defs.specs.SceneLook.{is_among}
use Rattle.debt_defs.specs.Concerns.{IsSame, children, concerns, lies_in, loses}
use Rattle.debt_defs.proofs.Concerned.{others_are_same}
use Rattle.debt_defs.proofs.Inside.{among-handles, there-tree}
use Rattle.debt_defs.proofs.Moved.{lies-in-tree, own-path, puts-last, tree-at}
use Rattle.debt_defs.proofs.Paths.{path-cut, path-with, spares-last}
use Rattle.debt_defs.proofs.SameRows.{same-object}
use Rattle.debt_defs.proofs.SameTrees.{deleted-path, end-path, index-path, made-path, not-in-tree}
use Rattle.gui_layout.specs.Scenes.{scene_box}
use Rattle.gui_layout.specs.SettledBut.{AreSettledButMarks, HasKids, IsReordered, IsUnmoved, WereSettled, nobody}
use Rattle.gui_layout.specs.Solved.{place_at}
use Rattle.gui_boxes.specs.Tables.{area_in}
use Rattle.gui_boxes.specs.Views.{no_box}
use Rattle.gui_boxes.specs.declared.entry.Entry.{Entry}
use Rattle.gui_layout.specs.declared.places.Places.{Places}
use Rattle.gui_layout.proofs.Before.{settled_but_marks}
use Rattle.gui_tree.proofs.Parts.{distinct_once as handles-distinct}
use Rattle.gui_layout.proofs.SceneBoxes.{none_found, row_found}
use Rattle.gui_concerns.specs.Concerned.{may_be}
use Rattle.gui_change.specs.Edits.{WasEdited, WasMade}
use Rattle.gui_concerns.specs.Edits.{edit_of, is_gone}
use Rattle.gui_concerns.specs.Moving.{moves_nobody}
use Rattle.gui_concerns.specs.declared.concerned.Concerned.{Concerned}
use Rattle.gui_concerns.specs.declared.edit.Edit.{Edit}
use Rattle.gui_concerns.specs.declared.edit.Edit.TheVariants.{Beside}
use Rattle.gui_tree.proofs.Paths.{children_gone, parent_gone}
use Rattle.gui_concerns.proofs.Below.{after-handles, handles-stay}
use Rattle.gui_change.proofs.BoxesStay.{boxes_stay}
use Rattle.gui_concerns.proofs.Changes.{after_is}
use Rattle.gui_change.proofs.Comings.{box-left, failed}
use Rattle.gui_change.proofs.Kids.{kid-before, kid-parent, kids-are, root-among}
use Rattle.gui_change.proofs.Moves.{box-on-path, moved, parent-second, second}
use Rattle.gui_concerns.proofs.Parents.{put-there}
use Rattle.gui_change.proofs.Unchanged.{box-alike, looks-same, there-is}

-- what has no entry has no place
pub place-none : (places : Places) (k : ℕ) → is_some (value_at places.entries k) ≡ false → place_at places k ≡ None
place-none places k none = by (value_at places.entries k) refl none where
  by : (e : Option Entry) → value_at places.entries k ≡ e → is_some e ≡ false → place_at places k ≡ None
  by None is off = ap (option_map area_in) is
  by (Some e) is off = absurd (false≢true (sym off))

-- what is not there has no box
pub box-gone : (scene : Scene) (k : ℕ) → is_there scene k ≡ false → scene_box scene k ≡ no_box k
box-gone scene k gone = by (row_at scene k) refl where
  by : (row : Option Row) → row_at scene k ≡ row → scene_box scene k ≡ no_box k
  by None none = sym (none_found scene k (sym none))
  by (Some row) is = absurd (both_ways (is_there scene k) gone (row_found scene k row (sym is)).0)

-- the children are the same
pub same-kids : (c : Bool) (m : ℕ → Bool) (new old : Forest ℕ) → roots new ≡ roots old → HasKids c m new old
same-kids true m new old same = λ k is off. root-among k old ∙ (ap (list_any (λ h. eqb h k)) (sym same) ∙ (sym (root-among k new) ∙ is))
same-kids false m new old same = same

-- What keeps its path is there as before, below the same parent.
pub there-by-row : (before after : Scene) (k : ℕ) → row_at after k ≡ row_at before k → is_there after k ≡ is_there before k
there-by-row before after k same = there-is after k ∙ (ap is_some same ∙ sym (there-is before k))

pub there-by-path : (before after : Scene) (k : ℕ) → path_at after k ≡ path_at before k → is_there after k ≡ is_there before k
there-by-path before after k same = there-by-row before after k (ap (option_map row_of) (same-object before after k same))

pub parent-by-path : (before after : Scene) (k : ℕ) → path_at after k ≡ path_at before k → parent_of (handles_of after.trees) k ≡ parent_of (handles_of before.trees) k
parent-by-path before after k same = parent-second k after.trees ∙ (ap (λ (p : List Object). option_map handle_of (second p)) same ∙ sym (parent-second k before.trees))

-- A change from which no object goes leaves those that it does not concern below their parents.
pub record KeepsObjects (before after : Scene) (c : Change) : Type 0 where
  pub stay : (k : ℕ) → is_there before k ≡ true → is_there after k ≡ true
  pub parents : (k : ℕ) → concerns before c k ≡ false → parent_of (handles_of after.trees) k ≡ parent_of (handles_of before.trees) k

keeps-trees : (before after : Scene) (c : Change) → handles_of after.trees ≡ handles_of before.trees → KeepsObjects before after c
keeps-trees before after c same = record {
  stay = λ k there. ap (λ (f : Forest ℕ). has f k) same ∙ there;
  parents = λ k off. ap (λ (f : Forest ℕ). parent_of f k) same;
}

keeps-paths : (before after : Scene) (c : Change) → ((k : ℕ) → path_at after k ≡ path_at before k) → KeepsObjects before after c
keeps-paths before after c same = record {
  stay = λ k there. there-by-path before after k (same k) ∙ there;
  parents = λ k off. parent-by-path before after k (same k);
}

-- an object comes, and all others keep their paths
keeps-others : (before after : Scene) (c : Change) (n : ℕ) → is_there before n ≡ false → ((k : ℕ) → eqb k n ≡ false → path_at after k ≡ path_at before k) → ((k : ℕ) → concerns before c k ≡ false → eqb k n ≡ false) →
    KeepsObjects before after c
keeps-others before after c n new same others = record {
  stay = λ k there. there-by-path before after k (same k (false_from_ne_true (eqb k n) (λ e. both_ways (is_there before n) new (subst (λ j. is_there before j ≡ true) (eqb-true k n e) there)))) ∙ there;
  parents = λ k off. parent-by-path before after k (same k (others k off));
}

-- a tree goes below another parent
pub there-with : (p k : ℕ) (t f : Forest Object) → there f k ≡ true → there (with_children_by (is_at p) (λ cs. and_then cs t) f) k ≡ true
there-with p k t Empty i = i
there-with p k t (Tree object cs rest) i = elim (cases_Bool (is_at p object)) [
  | inl top ↦ rw (top, there-and_then cs t k) (grind (arith, nat_tests, i))
  | inr lower ↦ rw lower (let a = there-with p k t cs in let b = there-with p k t rest in grind (arith, nat_tests, i))
]

-- what does not lie in it keeps its path, the new parent too
pub moved-path : (before : Scene) (h p k : ℕ) → IsValid before → is_there before h ≡ true → lies_in before h k ≡ false → path_by (is_at k) [] (moved_last before.trees h p) ≡ path_at before k
moved-path before h p k valid top up =
    let f = before.trees in
    let tree = tree_by (is_at h) f in
    let put = λ (cs : Forest Object). and_then cs tree in
    let left = cut_by (is_at h) f in
    elim (cases_Bool (eqb k p)) [
      | inl same ↦
          subst (λ j. path_by (is_at j) [] (with_children_by (is_at p) put left) ≡ path_by (is_at j) [] left) (sym (eqb-true k p same))
          (own-path h p tree put (puts-last h tree (tree-at h f (sym (has-handles f h) ∙ top))) [] left)
      | inr other ↦
          path-with (is_at k) (is_at p) put (spares-last (is_at k) tree (not-in-tree f h k (distinct_once f valid.trees.once) up)) (λ object at. let off = other in grind (arith, nat_tests)) [] left
    ]
    ∙ path-cut (is_at k) (is_at h) [] f up

keeps-moved : (before : Scene) (h p : Handle) → IsValid before → Fail (tests before (change.Parent h p)) → KeepsObjects before (scene_after before (change.Parent h p)) (change.Parent h p)
keeps-moved before h p valid t =
    let f = before.trees in
    let tree = tree_by (is_at h.0) f in
    let put = λ (cs : Forest Object). and_then cs tree in
    let d = distinct_once f valid.trees.once in
    record {
      stay = λ k i.
          let there_before : there f k ≡ true = sym (has-handles f k) ∙ i in
          let left = cut_by (is_at h.0) f in
          has-handles (with_children_by (is_at p.0) put left) k
          ∙ elim (cases_Bool (there tree k)) [
            | inl part ↦
                let p_there : there f p.0 ≡ true = sym (has-handles f p.0) ∙ not-false (has (handles_of f) p.0) t.1.0 in
                let apart : there tree p.0 ≡ false = sym (has-handles tree p.0) ∙ (ap (λ (g : Forest ℕ). has g p.0) (map-tree_by handle_of (λ j. eqb j h.0) f) ∙ t.1.1.1.0) in
                put-there h.0 k p.0 tree (tree-at h.0 f (there-tree f h.0 k part).0) part left ((depth-cut h.0 f p.0 d).2 p_there apart)
            | inr off ↦ there-with p.0 k tree left ((depth-cut h.0 f k d).2 there_before off)
          ];
      parents = λ k off.
          let o : (loses before h.0 k ≡ false) × (eqb k p.0 ≡ false) = or_parts _ _ off in
          parent-by-path before (scene_after before (change.Parent h p)) k (moved-path before h.0 p.0 k valid (not-false (is_there before h.0) t.0) (or_parts _ _ o.0).0);
    }

keeps-after : (before : Scene) (c : Change) → IsValid before → IsValid (scene_after before c) → Fail (tests before c) → is_gone (edit_of before c) ≡ false → KeepsObjects before (scene_after before c) c
keeps-after before (change.Delete h) valid now t kept = absurd (false≢true (sym kept))
keeps-after before (change.Screen n) valid now t kept =
    keeps-others before (scene_after before (change.Screen n)) (change.Screen n) n.0 t.0
    (λ k other. (spares-last (is_at k) (leaf (new_object n.0 Screen)) (let same = other in grind (arith, nat_tests))).path [] before.trees) (λ k off. off)
keeps-after before (change.New n p kind) valid now t kept =
    keeps-others before (scene_after before (change.New n p kind)) (change.New n p kind) n.0 t.1.0
    (λ k other. made-path before k p.0 (new_object n.0 kind) other) (λ k off. (or_parts _ _ off).0)
keeps-after before (change.Parent h p) valid now t kept = keeps-moved before h p valid t
keeps-after before (change.Index h n) valid now t kept =
    keeps-paths before (scene_after before (change.Index h n)) (change.Index h n) (λ k. index-path before valid h.0 k n (distinct_once _ now.trees.once))
keeps-after before (change.Front h) valid now t kept =
    keeps-paths before (scene_after before (change.Front h)) (change.Front h) (λ k. end-path before valid h.0 k (distinct_once _ now.trees.once))
keeps-after before (change.Back h) valid now t kept =
    keeps-paths before (scene_after before (change.Back h)) (change.Back h) (λ k. index-path before valid h.0 k 0 (distinct_once _ now.trees.once))
keeps-after before (change.Load h) valid now t kept = keeps-trees before (scene_after before (change.Load h)) (change.Load h) refl
keeps-after before c valid now t kept =
    keeps-trees before (scene_after before c) c (after-handles before c (setter_of c) (styling_in before c) (asset_change_in before c) refl)

-- A change that moves nobody leaves the trees.
none-load : (scene : Scene) (h : Handle) (answer : Option Refusal) → handles_of (scene_by answer scene (change.Load h)).trees ≡ handles_of scene.trees
none-load scene h None = refl
none-load scene h (Some refusal) = refl

nobody-trees : (scene : Scene) (c : Change) → moves_nobody c ≡ true → handles_of (changed scene c).trees ≡ handles_of scene.trees
nobody-trees scene (change.Screen n) e = absurd (false≢true e)
nobody-trees scene (change.New n p kind) e = absurd (false≢true e)
nobody-trees scene (change.Delete h) e = absurd (false≢true e)
nobody-trees scene (change.Parent h p) e = absurd (false≢true e)
nobody-trees scene (change.Index h n) e = absurd (false≢true e)
nobody-trees scene (change.Front h) e = absurd (false≢true e)
nobody-trees scene (change.Back h) e = absurd (false≢true e)
nobody-trees scene (change.Load h) e = none-load scene h (answer_of scene (change.Load h))
nobody-trees scene c e = handles-stay scene c refl

module _ (places : Places) (after : Scene) (made : Change) (concerned : Concerned) (was : WasMade places after made concerned) where
  pub limits-stay : after.limits ≡ was.before.limits
  limits-stay = ap (λ (s : Scene). s.limits) was.is ∙ change_keeps_limits was.before made

  pub valid-after : IsValid after
  valid-after = subst IsValid (sym was.is) (change_keeps_valid was.before made was.valid was.plain)

  -- what the change does not concern is the same
  pub same-after : (k : ℕ) → concerns was.before made k ≡ false → IsSame was.before after k
  same-after k off = subst (λ (s : Scene). IsSame was.before s k) (sym was.is) (others_are_same was.before made k was.valid was.plain off)

  -- all keep their boxes where layout does not go by what is set
  pub nobody-boxes : moves_nobody made ≡ true → (k : ℕ) → scene_box after k ≡ scene_box was.before k
  nobody-boxes nobody k = ap (λ (s : Scene). scene_box s k) was.is ∙ boxes_stay was.before made was.valid was.plain was.done nobody k

  -- where all that is not marked has not moved, the places were settled but for the marks
  pub were-settled : (m c : ℕ → Bool) → ((k : ℕ) → m k ≡ false → IsUnmoved was.before after m c k) → WereSettled places after m c
  were-settled m c same = record { before = was.before; settled = was.settled; once = was.valid.trees.once; limits = limits-stay; each = same }

  -- and are right but for these
  pub told : (m c : ℕ → Bool) → ((k : ℕ) → m k ≡ false → IsUnmoved was.before after m c k) → AreSettledButMarks places after m c
  told m c same = settled_but_marks places was.before after m c was.settled was.valid.trees.once valid-after.trees.once limits-stay same

  -- what was not there and is not there
  gone-told : (m c : ℕ → Bool) (k : ℕ) → is_there after k ≡ false → is_there was.before k ≡ false → IsUnmoved was.before after m c k
  gone-told m c k gone before = record {
    there = gone ∙ sym before;
    box = box-gone after k gone ∙ sym (box-gone was.before k before);
    kids = same-kids (c k) m (children_of (handles_of after.trees) k) (children_of (handles_of was.before.trees) k) (ap (λ (t : Forest ℕ). roots t) (children_gone (handles_of after.trees) k gone ∙ sym (children_gone (handles_of was.before.trees) k before)));
    root = λ root. parent_gone (handles_of was.before.trees) k None before;
  }

  -- nothing moves where layout does not go by what is set
  pub nobody-told : (m c : ℕ → Bool) → moves_nobody made ≡ true → WereSettled places after m c
  nobody-told m c nobody =
      let trees : handles_of after.trees ≡ handles_of was.before.trees = ap (λ (s : Scene). handles_of s.trees) was.is ∙ nobody-trees was.before made nobody in
      were-settled m c (λ k un. record {
        there = ap (λ (f : Forest ℕ). has f k) trees;
        box = nobody-boxes nobody k;
        kids = same-kids (c k) m (children_of (handles_of after.trees) k) (children_of (handles_of was.before.trees) k) (ap (λ (f : Forest ℕ). roots (children_of f k)) trees);
        root = λ root. ap (λ (f : Forest ℕ). parent_of f k) (sym trees) ∙ root;
      })

-- Objects that come or go.
module _ (places : Places) (after : Scene) (made : Change) (concerned : Concerned) (was : WasMade places after made concerned) (m c : ℕ → Bool) where
  valid : IsValid after
  valid = valid-after places after made concerned was

  -- what looks the same and keeps its path has not moved, if its children are told too
  on-path : (k : ℕ) → path_at after k ≡ path_at was.before k → scene_box after k ≡ scene_box was.before k → HasKids (c k) m (children_of (handles_of after.trees) k) (children_of (handles_of was.before.trees) k) → IsUnmoved was.before after m c k
  on-path k path box kids = record {
    there = there-by-path was.before after k path;
    box = box;
    kids = kids;
    root = λ root. sym (parent-by-path was.before after k path) ∙ root;
  }

  -- the children of an object, which may be others where that is told
  kids-told : (k : ℕ) → ((j : ℕ) → m j ≡ false → path_at after j ≡ path_at was.before j) → (c k ≡ false → children after k ≡ children was.before k) → (b : Bool) → c k ≡ b →
      HasKids b m (children_of (handles_of after.trees) k) (children_of (handles_of was.before.trees) k)
  kids-told k paths same true on = λ j kid un.
      kid-before (handles_of after.trees) (handles_of was.before.trees) j k valid.trees.once was.valid.trees.once (parent-by-path was.before after j (paths j un)) kid
  kids-told k paths same false off = sym (kids-are after k) ∙ (same off ∙ kids-are was.before k)

  -- Where an object came, none has moved but that one, and the children of its parent may be others.
  pub new-told : (n p : Handle) (kind : Kind) → made ≡ change.New n p kind → ((k : ℕ) → m k ≡ false → eqb k n.0 ≡ false) → ((k : ℕ) → m k ≡ false → c k ≡ false → eqb k p.0 ≡ false) → AreSettledButMarks places after m c
  new-told n p kind is off-n off-p =
      let scene = was.before in
      let it = change.New n p kind in
      let now : after ≡ scene_after scene it = was.is ∙ (after_is scene made was.done ∙ ap (scene_after scene) is) in
      let path = λ (k : ℕ) (un : m k ≡ false). ap (λ (s : Scene). path_at s k) now ∙ made-path scene k p.0 (new_object n.0 kind) (off-n k un) in
      told places after made concerned was m c (λ k un. on-path k (path k un)
      (ap (λ (s : Scene). scene_box s k) now ∙ box-on-path scene (scene_after scene it).trees k (made-path scene k p.0 (new_object n.0 kind) (off-n k un)))
      (kids-told k path (λ off.
      (same-after places after made concerned was k (ap (λ (d : Change). concerns scene d k) is ∙ or_from (eqb k n.0) (eqb k p.0) (off-n k un) (off-p k un off))).children) (c k) refl))

  -- what is not the parent of an object has it not among its children
  no-child : (h : Handle) (k : ℕ) → (parent_of (handles_of was.before.trees) h.0 ≡ Some k → ⊥) → is_among (children was.before k) h.0 ≡ false
  no-child h k above =
      let f = handles_of was.before.trees in
      false_from_ne_true (is_among (children was.before k) h.0) (λ child.
      above (kid-parent h.0 k None f (handles-distinct f was.valid.trees.once) (root-among h.0 (children_of f k) ∙ (ap (λ hs. is_among hs h.0) (sym (kids-are was.before k)) ∙ child))))

  -- Where a tree went, none has moved but its objects, and the children of its parent may be others.
  pub removed-told : (h : Handle) → made ≡ change.Delete h → ((k : ℕ) → m k ≡ false → is_among (below was.before h.0) k ≡ false) → ((k : ℕ) → m k ≡ false → c k ≡ false → parent_of (handles_of was.before.trees) h.0 ≡ Some k → ⊥) →
      AreSettledButMarks places after m c
  removed-told h is out above =
      let scene = was.before in
      let it = change.Delete h in
      let d = distinct_once scene.trees was.valid.trees.once in
      let now : after ≡ scene_after scene it = was.is ∙ (after_is scene made was.done ∙ ap (scene_after scene) is) in
      let off = λ (k : ℕ) (un : m k ≡ false). false_from_ne_true (lies_in scene h.0 k) (λ lies.
      both_ways (is_among (below scene h.0) k) (out k un) (among-handles (tree_below scene h.0) k ∙ lies-in-tree h.0 k [] scene.trees d refl lies)) in
      let path = λ (k : ℕ) (un : m k ≡ false). ap (λ (s : Scene). path_at s k) now ∙ deleted-path scene h.0 k (off k un) in
      told places after made concerned was m c (λ k un. on-path k (path k un)
      (ap (λ (s : Scene). scene_box s k) now ∙ box-left scene h k was.valid (off k un))
      (kids-told k path (λ none.
      (same-after places after made concerned was k (ap (λ (c : Change). concerns scene c k) is ∙ or_from (lies_in scene h.0 k) (is_among (children scene k) h.0) (off k un) (no-child h k (above k un none)))).children) (c k) refl))

  -- Where a tree went below another parent, none has moved but its objects, and the children of both parents may
  -- be others.
  pub reparented-told : (h p : Handle) → made ≡ change.Parent h p → ((k : ℕ) → m k ≡ false → lies_in was.before h.0 k ≡ false) → ((k : ℕ) → m k ≡ false → c k ≡ false → parent_of (handles_of was.before.trees) h.0 ≡ Some k → ⊥) →
      ((k : ℕ) → m k ≡ false → c k ≡ false → eqb k p.0 ≡ false) → AreSettledButMarks places after m c
  reparented-told h p is out above other =
      let scene = was.before in
      let it = change.Parent h p in
      let now : after ≡ scene_after scene it = was.is ∙ (after_is scene made was.done ∙ ap (scene_after scene) is) in
      let t = failed scene it (ap (answer_of scene) (sym is) ∙ was.done) in
      let stays = λ (k : ℕ) (un : m k ≡ false). moved-path scene h.0 p.0 k was.valid (not-false (is_there scene h.0) t.0) (out k un) in
      let path = λ (k : ℕ) (un : m k ≡ false). ap (λ (s : Scene). path_at s k) now ∙ stays k un in
      told places after made concerned was m c (λ k un. on-path k (path k un)
      (ap (λ (s : Scene). scene_box s k) now ∙ box-on-path scene (scene_after scene it).trees k (stays k un))
      (kids-told k path (λ none.
      (same-after places after made concerned was k (ap (λ (d : Change). concerns scene d k) is ∙ or_from (loses scene h.0 k) (eqb k p.0) (or_from (lies_in scene h.0 k) (is_among (children scene k) h.0) (out k un) (no-child h k (above k un none))) (other k un none))).children) (c k) refl))

-- Where a child of an object went elsewhere among its siblings, none has moved, and the children of that object
-- may be others.
module _ (places : Places) (after : Scene) (parent : Handle) (made : Change) (concerned : Concerned) (removed : List ℕ) (was : WasEdited places after (Beside parent) made concerned removed) (m c : ℕ → Bool) where
  pub beside-told : ((k : ℕ) → m k ≡ false → c k ≡ false → eqb k parent.0 ≡ false) → WereSettled places after m c
  beside-told off =
      let scene = was.was.before in
      let it = moved places after parent made concerned removed was in
      let path = λ (k : ℕ). ap (λ (s : Scene). path_at s k) it.is ∙ it.paths k in
      were-settled places after made concerned was.was m c (λ k un. on-path places after made concerned was.was m c k (path k)
      (ap (λ (s : Scene). scene_box s k) it.is ∙ box-on-path scene it.trees k (it.paths k))
      (kids-told places after made concerned was.was m c k (λ j still. path j) (λ none. ap (λ (s : Scene). children s k) it.is ∙ it.kids k (off k un none)) (c k) refl))

-- and so the order of its children alone is another
module _ (places : Places) (after : Scene) (parent : Handle) (made : Change) (concerned : Concerned) (removed : List ℕ) (was : WasEdited places after (Beside parent) made concerned removed) where
  pub beside-reordered : IsReordered was.was.before after parent.0
  beside-reordered =
      let scene = was.was.before in
      let it = moved places after parent made concerned removed was in
      let own : ℕ → Bool = λ k. eqb k parent.0 in
      let path = λ (k : ℕ). ap (λ (s : Scene). path_at s k) it.is ∙ it.paths k in
      record {
        once = was.was.valid.trees.once;
        limits = limits-stay places after made concerned was.was;
        each = λ k. on-path places after made concerned was.was nobody own k (path k)
            (ap (λ (s : Scene). scene_box s k) it.is ∙ box-on-path scene it.trees k (it.paths k))
            (kids-told places after made concerned was.was nobody own k (λ j still. path j) (λ none. ap (λ (s : Scene). children s k) it.is ∙ it.kids k none) (eqb k parent.0) refl);
        kept = λ k kid.
            let valid = valid-after places after made concerned was.was in
            kid-before (handles_of scene.trees) (handles_of after.trees) k parent.0 was.was.valid.trees.once valid.trees.once (sym (parent-by-path scene after k (path k))) kid;
      }

module _ (places : Places) (after : Scene) (edit : Edit) (made : Change) (concerned : Concerned) (removed : List ℕ) (was : WasEdited places after edit made concerned removed) where
  pub keeps : is_gone edit ≡ false → KeepsObjects was.was.before after made
  keeps kept =
      let done = after_is was.was.before made was.was.done in
      let t = failed was.was.before made was.was.done in
      subst (λ (s : Scene). KeepsObjects was.was.before s made) (sym (was.was.is ∙ done))
      (keeps-after was.was.before made was.was.valid (subst IsValid (was.was.is ∙ done) (valid-after places after made concerned was.was)) t (ap is_gone (sym was.does) ∙ kept))

  pub off-concerned : (k : ℕ) → is_there after k ≡ true → may_be after concerned k ≡ false → concerns was.was.before made k ≡ false
  off-concerned k there off = was.was.covers was.was.done k (subst (λ (s : Scene). is_there s k ≡ true) was.was.is there) (subst (λ (s : Scene). may_be s concerned k ≡ false) was.was.is off)

  -- what the change does not concern keeps its box
  pub others-boxes : (k : ℕ) → is_there after k ≡ true → may_be after concerned k ≡ false → scene_box after k ≡ scene_box was.was.before k
  others-boxes k there off = box-alike was.was.before after k (looks-same was.was.before after k (same-after places after made concerned was.was k (off-concerned k there off)))

  -- else none but those that the change may concern
  pub others-told : (m c : ℕ → Bool) → is_gone edit ≡ false → ((k : ℕ) → is_there after k ≡ true → m k ≡ false → may_be after concerned k ≡ false) → WereSettled places after m c
  others-told m c kept others =
      were-settled places after made concerned was.was m c (λ k un. elim (cases_Bool (is_there after k)) [
        | inl there ↦
            let off = off-concerned k there (others k there un) in
            let same = same-after places after made concerned was.was k off in
            record {
              there = there-by-row was.was.before after k same.row;
              box = box-alike was.was.before after k (looks-same was.was.before after k same);
              kids = same-kids (c k) m (children_of (handles_of after.trees) k) (children_of (handles_of was.was.before.trees) k) (sym (kids-are after k) ∙ (same.children ∙ kids-are was.was.before k));
              root = λ root. sym ((keeps kept).parents k off) ∙ root;
            }
        | inr gone ↦
            let gone_before : is_there was.was.before k ≡ false = false_from_ne_true (is_there was.was.before k) (λ i. both_ways (is_there after k) gone ((keeps kept).stay k i)) in
            gone-told places after made concerned was.was m c k gone gone_before
      ])
