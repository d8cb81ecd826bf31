-- What is the same where trees are edited.
use Rattle.std.proofs.Common.{◌≡◌, ◌⊎◌, ◌∙◌, sym, ap, ℕ, Bool, true, false, eqb, ◌||◌, Option, Some, None, List, [], ◌∷◌, map, ℤ, refl, subst, arith, inl, inr, eq-eqb}
use Rattle.std.specs.List.{list_any}
use Rattle.std.proofs.lemmas.List.{get_or-set_other}
use Rattle.std.proofs.lemmas.Bool.{cases_Bool, or_parts, or_from, or_right, or_left, both_ways, false≢true, false_from_ne_true, eqb-true, eqb-false}
use Rattle.std.proofs.lemmas.Bool.Decides.{nat_tests}
use Rattle.gui_base.specs.declared.words.Part.{Part}
use Rattle.gui_base.specs.declared.props.Prop.{Prop}
use Rattle.gui_base.specs.Forest.{Forest, Empty, Tree, and_then, put_at, leaf, roots, cut_by, tree_by, children_by, parent_by, path_by, with_children_by}
use Rattle.style_defs.specs.Book.{Book, locals_of, uses_of, forgotten, all_forgotten}
use Rattle.style_defs.specs.Value.{value_on}
use Rattle.style_defs.proofs.Changing.{all_forgets}
use Rattle.scene_defs.specs.Scene.{Object, Scene, handle_of, is_at, styled_of, path_at, value}
use Rattle.scene_defs.specs.Edits.{below, parent_object, last_below, at_index_below}
use Rattle.scene_defs.specs.Valid.{IsValid}
use Rattle.scene_defs.proofs.Distinct.{there, IsDistinct, distinct_once}
use Rattle.debt_defs.specs.SceneLook.{is_among}
use Rattle.debt_defs.specs.Concerns.{lies_in, loses, holds_place}
use Rattle.debt_defs.proofs.Inside.{among-handles, there-tree}
use Rattle.debt_defs.proofs.Paths.{avoids, not-in, path-cut, children-cut, Spares, spares-last, spares-put, path-with, children-with, children-none}
use Rattle.scene_defs.proofs.RowKinds.{parent-left}
use Rattle.debt_defs.proofs.Moved.{lies-in-tree, parent-avoids, own-path, Puts, path-kept, children-kept, IsTreeAt, tree-at, puts-at, puts-last}
use Rattle.debt_defs.proofs.Wins.{map-same}
use Rattle.debt_defs.proofs.SameRows.{IsAlike, same-object, same-edit}

-- Edits of trees.
list_any-map : (h : ℕ) (objects : List Object) → is_among (map handle_of objects) h ≡ list_any (is_at h) objects
list_any-map h [] = refl
list_any-map h (object ∷ objects) = ap (λ b. is_at h object || b) (list_any-map h objects)

-- what a tree is taken from, and what it lay below, is told by a path and by children
module _ (f : Forest Object) (h k : ℕ) (d : IsDistinct f) (off : avoids (is_at k) (is_at h) [] f ≡ false) where
  -- k does not stand in the tree at h
  pub not-in-tree : there (tree_by (is_at h) f) k ≡ false
  not-in-tree = false_from_ne_true _ (λ i. go [] f d i off) where
    go : (above : List Object) (g : Forest Object) → IsDistinct g → there (tree_by (is_at h) g) k ≡ true → avoids (is_at k) (is_at h) above g ≡ false → ⊥
    go above Empty e i o = false≢true i
    go above (Tree object cs rest) e i o = elim (cases_Bool (is_at h object)) [
      | inl top ↦ elim (cases_Bool (is_at k object)) [
        | inl is ↦ both_ways _ (or_parts _ _ (rw is at o)).0 top
        | inr isnt ↦
            let inner : there cs k ≡ true = let p = rw top at i in grind (arith, nat_tests) in
            not-in (is_at k) (is_at h) object above cs top inner (rw (isnt, inner) at o)
      ]
      | inr lower ↦ elim (cases_Bool (there cs h)) [
        | inl below ↦
            let part : there (tree_by (is_at h) cs) k ≡ true = rw (lower, below) at i in
            let inner = (there-tree cs h k part).1 in
            let isnt : is_at k object ≡ false = let o1 = e.1 in grind (arith, nat_tests) in
            go (object ∷ above) cs e.3 part (rw (isnt, inner) at o)
        | inr beside ↦
            let part : there (tree_by (is_at h) rest) k ≡ true = rw (lower, beside) at i in
            let later = (there-tree rest h k part).1 in
            let isnt : is_at k object ≡ false = let o1 = e.2 in grind (arith, nat_tests) in
            let out = false_from_ne_true (there cs k) (λ j. both_ways _ (e.0 k j) later) in
            go above rest e.4 part (rw (isnt, out) at o)
      ]
    ]

-- the object above h, and h among its children
record IsAbove (f : Forest Object) (h : ℕ) (above : Option Object) (p : Object) : Type 0 where
  found : ((list_any (is_at h) (roots f) ≡ true) × (above ≡ Some p)) ⊎ (list_any (is_at h) (roots (children_by (is_at p.handle) f)) ≡ true)

has-child : (f : Forest Object) (h : ℕ) (p : Object) → list_any (is_at h) (roots (children_by (is_at p.handle) f)) ≡ true → there f p.handle ≡ true
has-child f h p i = elim (cases_Bool (there f p.handle)) [
  | inl is ↦ is
  | inr off ↦ absurd (false≢true (sym (ap (λ g. list_any (is_at h) (roots g)) (children-none (is_at p.handle) f off)) ∙ i))
]

parent-found : (f : Forest Object) (h : ℕ) (above : Option Object) (p : Object) → IsDistinct f → there f h ≡ true → parent_by (is_at h) above f ≡ Some p → IsAbove f h above p
parent-found Empty h above p d i e = absurd (false≢true i)
parent-found (Tree object cs rest) h above p d i e = elim (cases_Bool (is_at h object)) [
  | inl top ↦ record { found = inl (or_left _ _ top, rw top at e) }
  | inr lower ↦ elim (cases_Bool (there cs h)) [
    | inl below ↦ elim (parent-found cs h (Some object) p d.3 below (rw (lower, below) at e)).found [
      | inl here ↦
          let same : object ≡ p = cc in
          record { found = inr (ap (λ (o : Object). list_any (is_at h) (roots (children_by (is_at o.handle) (Tree object cs rest)))) (sym same) ∙ rw (eq-eqb object.handle object.handle refl) here.0) }
      | inr deeper ↦
          let inner = has-child cs h p deeper in
          let isnt : is_at p.handle object ≡ false = let o = d.1 in grind (arith, nat_tests) in
          record { found = inr (rw (isnt, inner) deeper) }
    ]
    | inr beside ↦
        let later : there rest h ≡ true = rw (lower, beside) at i in
        elim (parent-found rest h above p d.4 later (rw (lower, beside) at e)).found [
          | inl here ↦ record { found = inl (or_right _ _ here.0, here.1) }
          | inr deeper ↦
              let inner = has-child rest h p deeper in
              let isnt : is_at p.handle object ≡ false = let o = d.2 in grind (arith, nat_tests) in
              let out = false_from_ne_true (there cs p.handle) (λ j. both_ways _ (d.0 p.handle j) inner) in
              record { found = inr (rw (isnt, out) deeper) }
        ]
  ]
]

module _ (scene : Scene) (v : IsValid scene) (h k : ℕ) (off : loses scene h k ≡ false) where
  distinct : IsDistinct scene.trees
  distinct = distinct_once scene.trees v.trees.once

  up : avoids (is_at k) (is_at h) [] scene.trees ≡ false
  up = (or_parts _ _ off).0

  kids : list_any (is_at h) (roots (children_by (is_at k) scene.trees)) ≡ false
  kids = sym (list_any-map h (roots (children_by (is_at k) scene.trees))) ∙ (or_parts _ _ off).1

  -- the tree at h goes below p, which is not k
  pub moved-same : (p : ℕ) (g : Forest Object → Forest Object) → Spares (is_at k) g → eqb k p ≡ false → IsAlike scene (record scene { trees = with_children_by (is_at p) g (cut_by (is_at h) scene.trees) }) k
  moved-same p g spares isnt =
      let other = λ (object : Object) (is : is_at k object ≡ true). other-at object is in
      same-edit scene (with_children_by (is_at p) g (cut_by (is_at h) scene.trees)) k
      (path-with (is_at k) (is_at p) g spares other [] (cut_by (is_at h) scene.trees) ∙ path-cut (is_at k) (is_at h) [] scene.trees up)
      (children-with (is_at k) (is_at p) g spares other (cut_by (is_at h) scene.trees) ∙ children-cut (is_at k) (is_at h) [] scene.trees up kids)
    where
      other-at : (object : Object) → is_at k object ≡ true → is_at p object ≡ false
      other-at object is = grind (arith, nat_tests)

-- h is a child of its parent
parent-off : (f : Forest Object) (h : ℕ) (above : Option Object) → there f h ≡ false → parent_by (is_at h) above f ≡ None
parent-off Empty h above o = refl
parent-off (Tree object cs rest) h above o = grind (arith, nat_tests, parent-off rest h above)

parent-child : (f : Forest Object) (h : ℕ) (p : Object) → IsDistinct f → parent_by (is_at h) None f ≡ Some p →
    (there f h ≡ true) × (list_any (is_at h) (roots (children_by (is_at p.handle) f)) ≡ true)
parent-child f h p d e = elim (cases_Bool (there f h)) [
  | inl i ↦ elim (parent-found f h None p d i e).found [
    | inl root ↦ absurd (none-some root.1)
    | inr child ↦ (i, child)
  ]
  | inr out ↦ absurd (none-some (sym (parent-off f h None out) ∙ e))
]
  where
    none-some : None ≡ Some p → ⊥
    none-some n = cc

-- The tree at h goes elsewhere among its siblings.
gone : (f : Forest Object) (h : ℕ) → there (cut_by (is_at h) f) h ≡ false
gone Empty h = refl
gone (Tree object cs rest) h = grind (arith, nat_tests, gone cs h, gone rest h)

module _ (scene : Scene) (v : IsValid scene) (h k : ℕ) (off : holds_place scene h k ≡ false) where
  place-distinct : IsDistinct scene.trees
  place-distinct = distinct_once scene.trees v.trees.once

  abbrev moved_tree : Forest Object
  moved_tree = tree_by (is_at h) scene.trees

  abbrev left_trees : Forest Object
  left_trees = cut_by (is_at h) scene.trees

  not-child : list_any (is_at h) (roots (children_by (is_at k) scene.trees)) ≡ false
  not-child = sym (list_any-map h (roots (children_by (is_at k) scene.trees))) ∙ (or_parts _ _ off).1

  not-parent : (p : Object) → list_any (is_at h) (roots (children_by (is_at p.handle) scene.trees)) ≡ true → eqb k p.handle ≡ false
  not-parent p child = false_from_ne_true _ (λ is. both_ways _ not-child (ap (λ j. list_any (is_at h) (roots (children_by (is_at j) scene.trees))) (eqb-true k p.handle is) ∙ child))

  moved-beside : (p : Object) (g : Forest Object → Forest Object) → parent_object scene h ≡ Some p → (IsTreeAt h moved_tree → Puts h moved_tree g) → (there moved_tree k ≡ false → Spares (is_at k) g) →
      IsDistinct (with_children_by (is_at p.handle) g left_trees) → IsAlike scene (record scene { trees = with_children_by (is_at p.handle) g left_trees }) k
  moved-beside p g parent_is puts spares e =
      let d = place-distinct in
      let child = parent-child scene.trees h p d parent_is in
      elim (cases_Bool (lies_in scene h k)) [
        | inl inside ↦
            let part = lies-in-tree h k [] scene.trees d refl inside in
            let put = puts (tree-at h scene.trees child.0) in
            let on = parent-left scene.trees h p parent_is in
            let path = path-cut (is_at p.handle) (is_at h) [] scene.trees (parent-avoids h p.handle scene.trees d child.1) in
            same-edit scene (with_children_by (is_at p.handle) g left_trees) k
            (path-kept h p.handle moved_tree g put scene.trees left_trees d e refl child.1 on (gone scene.trees h) path k part)
            (ap roots (children-kept h p.handle moved_tree g put scene.trees left_trees d e refl child.1 on (gone scene.trees h) path k part))
        | inr outside ↦
            let away : loses scene h k ≡ false = or_from _ _ outside (or_parts _ _ off).1 in
            moved-same scene v h k away p.handle g (spares (not-in-tree scene.trees h k d outside)) (not-parent p child.1)
      ]

  pub to-index : (n : ℕ) → IsDistinct (at_index_below (parent_object scene h) scene.trees h n) → IsAlike scene (record scene { trees = at_index_below (parent_object scene h) scene.trees h n }) k
  to-index n e = by (parent_object scene h) refl e where
    by : (parent : Option Object) → parent_object scene h ≡ parent → IsDistinct (at_index_below parent scene.trees h n) → IsAlike scene (record scene { trees = at_index_below parent scene.trees h n }) k
    by None parent_is d = record { object = refl; children = refl; values = λ part prop. refl }
    by (Some p) parent_is d = moved-beside p (put_at n moved_tree) parent_is (puts-at h n moved_tree) (λ out. spares-put (is_at k) moved_tree out n) d

  pub to-end : IsDistinct (last_below (parent_object scene h) scene.trees h) → IsAlike scene (record scene { trees = last_below (parent_object scene h) scene.trees h }) k
  to-end e = by (parent_object scene h) refl e where
    by : (parent : Option Object) → parent_object scene h ≡ parent → IsDistinct (last_below parent scene.trees h) → IsAlike scene (record scene { trees = last_below parent scene.trees h }) k
    by None parent_is d = record { object = refl; children = refl; values = λ part prop. refl }
    by (Some p) parent_is d = moved-beside p (λ cs. and_then cs moved_tree) parent_is (puts-last h moved_tree) (λ out. spares-last (is_at k) moved_tree out) d

-- All objects keep their paths, the moved ones and the parent too.
module _ (scene : Scene) (v : IsValid scene) (h k : ℕ) where
  abbrev moving : Forest Object
  moving = tree_by (is_at h) scene.trees

  beside-path : (p : Object) (g : Forest Object → Forest Object) → parent_object scene h ≡ Some p → (IsTreeAt h moving → Puts h moving g) → (there moving k ≡ false → Spares (is_at k) g) →
      IsDistinct (with_children_by (is_at p.handle) g (cut_by (is_at h) scene.trees)) → path_by (is_at k) [] (with_children_by (is_at p.handle) g (cut_by (is_at h) scene.trees)) ≡ path_at scene k
  beside-path p g parent_is puts spares e =
      let d = distinct_once scene.trees v.trees.once in
      let left = cut_by (is_at h) scene.trees in
      let child = parent-child scene.trees h p d parent_is in
      let put = puts (tree-at h scene.trees child.0) in
      let path = path-cut (is_at p.handle) (is_at h) [] scene.trees (parent-avoids h p.handle scene.trees d child.1) in
      elim (cases_Bool (lies_in scene h k)) [
        | inl inside ↦ path-kept h p.handle moving g put scene.trees left d e refl child.1 (parent-left scene.trees h p parent_is) (gone scene.trees h) path k (lies-in-tree h k [] scene.trees d refl inside)
        | inr outside ↦ elim (cases_Bool (eqb k p.handle)) [
          | inl is ↦
              let own = own-path h p.handle moving g put [] left ∙ path in
              subst (λ j. path_by (is_at j) [] (with_children_by (is_at p.handle) g left) ≡ path_by (is_at j) [] scene.trees) (sym (eqb-true k p.handle is)) own
          | inr other ↦
              path-with (is_at k) (is_at p.handle) g (spares (not-in-tree scene.trees h k d outside)) (λ object at. let off = other in grind (arith, nat_tests)) [] left
              ∙ path-cut (is_at k) (is_at h) [] scene.trees outside
        ]
      ]

  pub index-path : (n : ℕ) → IsDistinct (at_index_below (parent_object scene h) scene.trees h n) → path_by (is_at k) [] (at_index_below (parent_object scene h) scene.trees h n) ≡ path_at scene k
  index-path n e = by (parent_object scene h) refl e where
    by : (parent : Option Object) → parent_object scene h ≡ parent → IsDistinct (at_index_below parent scene.trees h n) → path_by (is_at k) [] (at_index_below parent scene.trees h n) ≡ path_at scene k
    by None parent_is d = refl
    by (Some p) parent_is d = beside-path p (put_at n moving) parent_is (puts-at h n moving) (λ out. spares-put (is_at k) moving out n) d

  pub end-path : IsDistinct (last_below (parent_object scene h) scene.trees h) → path_by (is_at k) [] (last_below (parent_object scene h) scene.trees h) ≡ path_at scene k
  end-path e = by (parent_object scene h) refl e where
    by : (parent : Option Object) → parent_object scene h ≡ parent → IsDistinct (last_below parent scene.trees h) → path_by (is_at k) [] (last_below parent scene.trees h) ≡ path_at scene k
    by None parent_is d = refl
    by (Some p) parent_is d = beside-path p (λ cs. and_then cs moving) parent_is (puts-last h moving) (λ out. spares-last (is_at k) moving out) d

-- What is left of a tree stands in no tree that is cut out.
there-from-cut : (f : Forest Object) (h j : ℕ) → there (cut_by (is_at h) f) j ≡ true → there f j ≡ true
there-from-cut Empty h j i = i
there-from-cut (Tree object cs rest) h j i = grind (arith, nat_tests, there-from-cut cs h j, there-from-cut rest h j)

cut-apart : (f : Forest Object) (h j : ℕ) → IsDistinct f → there (cut_by (is_at h) f) j ≡ true → there (tree_by (is_at h) f) j ≡ false
cut-apart Empty h j d i = refl
cut-apart (Tree object cs rest) h j d i = elim (cases_Bool (is_at h object)) [
  | inl top ↦
      let later = there-from-cut rest h j (rw top at i) in
      let out = false_from_ne_true (there cs j) (λ k. both_ways _ (d.0 j k) later) in
      let isnt : eqb object.handle j ≡ false = let o = d.2 in grind (arith, nat_tests) in
      rw top (rw (isnt, out) refl)
  | inr lower ↦ elim (cases_Bool (there cs h)) [
    | inl below ↦ rw (lower, below) (false_from_ne_true _ (λ part.
        let inner = (there-tree cs h j part).1 in
        let isnt : eqb object.handle j ≡ false = let o = d.1 in grind (arith, nat_tests) in
        let out = false_from_ne_true (there (cut_by (is_at h) rest) j) (λ k. both_ways _ (d.0 j inner) (there-from-cut rest h j k)) in
        let left : there (cut_by (is_at h) cs) j ≡ true = let whole = rw lower at i in grind (arith, nat_tests) in
        both_ways _ (cut-apart cs h j d.3 left) part))
    | inr beside ↦ rw (lower, beside) (false_from_ne_true _ (λ part.
        let later = (there-tree rest h j part).1 in
        let isnt : eqb object.handle j ≡ false = let o = d.2 in grind (arith, nat_tests) in
        let out = false_from_ne_true (there (cut_by (is_at h) cs) j) (λ k. both_ways _ (d.0 j (there-from-cut cs h j k)) later) in
        let left : there (cut_by (is_at h) rest) j ≡ true = let whole = rw lower at i in grind (arith, nat_tests) in
        both_ways _ (cut-apart rest h j d.4 left) part))
  ]
]

-- the objects of a path stand in the trees
path-among : (q : ℕ → Bool) (k : ℕ) (f : Forest Object) (above : List Object) → ((j : ℕ) → there f j ≡ true → q j ≡ false) → list_any (λ (object : Object). q object.handle) above ≡ false →
    list_any (λ (object : Object). q object.handle) (path_by (is_at k) above f) ≡ false
path-among q k Empty above none off = refl
path-among q k (Tree object cs rest) above none off =
    let own : q object.handle ≡ false = none object.handle (or_left _ _ (eq-eqb object.handle object.handle refl)) in
    let inner = path-among q k cs (object ∷ above) (λ j i. none j (or_right _ _ (or_left _ _ i))) (or_from _ _ own off) in
    let later = path-among q k rest above (λ j i. none j (or_right _ _ (or_right _ _ i))) off in
    elim (cases_Bool (is_at k object)) [
      | inl is ↦ rw is (or_from _ _ own off)
      | inr isnt ↦ elim (cases_Bool (there cs k)) [
        | inl below ↦ rw (isnt, below) inner
        | inr beside ↦ rw (isnt, beside) later
      ]
    ]

-- what is not forgotten
locals-left : (hs : List ℕ) (book : Book) (j : ℕ) → is_among hs j ≡ false → locals_of (all_forgotten book hs) j ≡ locals_of book j
locals-left [] book j off = refl
locals-left (h ∷ hs) book j off =
    let parts : (eqb h j ≡ false) × (is_among hs j ≡ false) = or_parts _ _ off in
    locals-left hs (forgotten book h) j parts.1 ∙ get_or-set_other book.locals h j [] [] (λ e. eqb-false h j parts.0 (sym e))

uses-left : (hs : List ℕ) (book : Book) (j : ℕ) → is_among hs j ≡ false → uses_of (all_forgotten book hs) j ≡ uses_of book j
uses-left [] book j off = refl
uses-left (h ∷ hs) book j off =
    let parts : (eqb h j ≡ false) × (is_among hs j ≡ false) = or_parts _ _ off in
    uses-left hs (forgotten book h) j parts.1 ∙ get_or-set_other book.uses h j [] [] (λ e. eqb-false h j parts.0 (sym e))

pub deleted-path : (scene : Scene) (h k : ℕ) → lies_in scene h k ≡ false → path_by (is_at k) [] (cut_by (is_at h) scene.trees) ≡ path_at scene k
deleted-path scene h k off = path-cut (is_at k) (is_at h) [] scene.trees off

pub deleted-value : (scene : Scene) (v : IsValid scene) (h k : ℕ) → lies_in scene h k ≡ false → (part : Part) →
    value (record scene { trees = cut_by (is_at h) scene.trees; book = all_forgotten scene.book (below scene h) }) k part ≡ value scene k part
deleted-value scene v h k off part =
    let left = cut_by (is_at h) scene.trees in
    let after : Scene = record scene { trees = left; book = all_forgotten scene.book (below scene h) } in
    let path = deleted-path scene h k off in
    let gone : ℕ → Bool = is_among (below scene h) in
    let none = path-among gone k left [] (λ j i. among-handles (tree_by (is_at h) scene.trees) j ∙ cut-apart scene.trees h j (distinct_once scene.trees v.trees.once) i) refl in
    let styled : map (styled_of after.book) (path_at after k) ≡ map (styled_of scene.book) (path_at after k) =
    map-same (styled_of after.book) (styled_of scene.book) (λ object. gone object.handle)
    (λ object stays. rw (locals-left (below scene h) scene.book object.handle stays, uses-left (below scene h) scene.book object.handle stays) refl)
    (path_at after k) none in
    ap (λ styles. λ prop. value_on styles (map (styled_of after.book) (path_at after k)) part prop) (all_forgets (below scene h) scene.book).styles_left
    ∙ ap (λ os. λ prop. value_on scene.book.styles os part prop) styled
    ∙ ap (λ p. λ prop. value_on scene.book.styles (map (styled_of scene.book) p) part prop) path

pub deleted-same : (scene : Scene) (v : IsValid scene) (h k : ℕ) → loses scene h k ≡ false →
    IsAlike scene (record scene { trees = cut_by (is_at h) scene.trees; book = all_forgotten scene.book (below scene h) }) k
deleted-same scene v h k off =
    let after : Scene = record scene { trees = cut_by (is_at h) scene.trees; book = all_forgotten scene.book (below scene h) } in
    let outside = up scene v h k off in
    record {
      object = same-object scene after k (deleted-path scene h k outside);
      children = ap (map handle_of) (children-cut (is_at k) (is_at h) [] scene.trees outside (kids scene v h k off));
      values = λ part prop. ap (λ (f : Prop → ℤ). f prop) (deleted-value scene v h k outside part);
    }

-- New objects.
pub made-same : (scene : Scene) (k p : ℕ) (object : Object) → eqb k object.handle ≡ false → eqb k p ≡ false →
    IsAlike scene (record scene { trees = with_children_by (is_at p) (λ cs. and_then cs (leaf object)) scene.trees }) k
made-same scene k p object new isnt =
    same-edit scene (with_children_by (is_at p) (λ cs. and_then cs (leaf object)) scene.trees) k
    (path-with (is_at k) (is_at p) (λ cs. and_then cs (leaf object)) spares other [] scene.trees)
    (children-with (is_at k) (is_at p) (λ cs. and_then cs (leaf object)) spares other scene.trees)
  where
    off : there (leaf object) k ≡ false
    off = let same = new in grind (arith, nat_tests)

    spares : Spares (is_at k) (λ cs. and_then cs (leaf object))
    spares = spares-last (is_at k) (leaf object) off

    other : (o : Object) → is_at k o ≡ true → is_at p o ≡ false
    other o is = grind (arith, nat_tests)

-- all others keep their paths, the parent too
pub made-path : (scene : Scene) (k p : ℕ) (object : Object) → eqb k object.handle ≡ false → path_by (is_at k) [] (with_children_by (is_at p) (λ cs. and_then cs (leaf object)) scene.trees) ≡ path_at scene k
made-path scene k p object new = elim (cases_Bool (eqb k p)) [
  | inl is ↦
      let new_leaf : IsTreeAt object.handle (leaf object) = record { object = object; children = Empty; tree = refl; named = eq-eqb object.handle object.handle refl } in
      let own = own-path object.handle p (leaf object) put (puts-last object.handle (leaf object) new_leaf) [] scene.trees in
      subst (λ j. path_by (is_at j) [] (with_children_by (is_at p) put scene.trees) ≡ path_by (is_at j) [] scene.trees) (sym (eqb-true k p is)) own
  | inr isnt ↦
      let off : there (leaf object) k ≡ false = let same = new in grind (arith, nat_tests) in
      path-with (is_at k) (is_at p) put (spares-last (is_at k) (leaf object) off) (λ o at. let other = isnt in grind (arith, nat_tests)) [] scene.trees
]
  where
    put : Forest Object → Forest Object
    put cs = and_then cs (leaf object)

pub screen-same : (scene : Scene) (k : ℕ) (object : Object) → eqb k object.handle ≡ false → IsAlike scene (record scene { trees = and_then scene.trees (leaf object) }) k
screen-same scene k object new =
    let off : there (leaf object) k ≡ false = grind (arith, nat_tests) in
    let spares = spares-last (is_at k) (leaf object) off in
    same-edit scene (and_then scene.trees (leaf object)) k (spares.path [] scene.trees) (spares.children scene.trees)
