-- A tree that moves among its siblings keeps the paths and the children of all that stands in it.
use Rattle.std.proofs.Common.{◌≡◌, ◌∙◌, sym, ap, ℕ, zero, suc, true, false, ◌||◌, List, [], ◌∷◌, refl, arith, inl, inr}
use Rattle.std.specs.List.{list_any}
use Rattle.std.proofs.lemmas.Bool.{cases_Bool, or_parts, or_from, or_left, or_right, both_ways, false≢true, false_from_ne_true, eqb-true}
use Rattle.std.proofs.lemmas.Bool.Decides.{nat_tests}
use Rattle.gui_base.specs.Forest.{Forest, Empty, Tree, and_then, put_at, roots, tree_by, children_by, path_by, with_children_by}
use Rattle.scene_defs.specs.Scene.{Object, is_at}
use Rattle.scene_defs.proofs.Distinct.{there, IsDistinct}
use Rattle.scene_defs.proofs.Totals.{with_children-off}
use Rattle.debt_defs.proofs.Inside.{there-tree}

abbrev pub above_of : List Object → List Object
above_of [] = []
above_of (object ∷ above) = above

isnt-at : (object : Object) (f : Forest Object) (k : ℕ) → there f object.handle ≡ false → there f k ≡ true → is_at k object ≡ false
isnt-at object f k out i = grind (arith, nat_tests)

-- What stands in the tree at h has its path through it.
path-in-tree : (h k : ℕ) (above : List Object) (f : Forest Object) → IsDistinct f → there (tree_by (is_at h) f) k ≡ true →
    path_by (is_at k) above f ≡ path_by (is_at k) (above_of (path_by (is_at h) above f)) (tree_by (is_at h) f)
path-in-tree h k above Empty d part = absurd (false≢true part)
path-in-tree h k above (Tree object cs rest) d part = elim (cases_Bool (is_at h object)) [
  | inl top ↦ rw top (elim (cases_Bool (is_at k object)) [
    | inl is ↦ rw is refl
    | inr isnt ↦
        let inner : there cs k ≡ true = let p = rw top at part in grind (arith, nat_tests) in
        rw (isnt, inner) refl
  ])
  | inr lower ↦ elim (cases_Bool (there cs h)) [
    | inl below ↦
        let p : there (tree_by (is_at h) cs) k ≡ true = rw (lower, below) at part in
        let inner = (there-tree cs h k p).1 in
        rw (lower, below, isnt-at object cs k d.1 inner, inner) (path-in-tree h k (object ∷ above) cs d.3 p)
    | inr beside ↦
        let p : there (tree_by (is_at h) rest) k ≡ true = rw (lower, beside) at part in
        let later = (there-tree rest h k p).1 in
        let out = false_from_ne_true (there cs k) (λ j. both_ways _ (d.0 k j) later) in
        rw (lower, beside, isnt-at object rest k d.2 later, out) (path-in-tree h k above rest d.4 p)
  ]
]

children-in-tree : (h k : ℕ) (f : Forest Object) → IsDistinct f → there (tree_by (is_at h) f) k ≡ true → children_by (is_at k) f ≡ children_by (is_at k) (tree_by (is_at h) f)
children-in-tree h k Empty d part = refl
children-in-tree h k (Tree object cs rest) d part = elim (cases_Bool (is_at h object)) [
  | inl top ↦ rw top (elim (cases_Bool (is_at k object)) [
    | inl is ↦ rw is refl
    | inr isnt ↦
        let inner : there cs k ≡ true = let p = rw top at part in grind (arith, nat_tests) in
        rw (isnt, inner) refl
  ])
  | inr lower ↦ elim (cases_Bool (there cs h)) [
    | inl below ↦
        let p : there (tree_by (is_at h) cs) k ≡ true = rw (lower, below) at part in
        let inner = (there-tree cs h k p).1 in
        rw (lower, below, isnt-at object cs k d.1 inner, inner) (children-in-tree h k cs d.3 p)
    | inr beside ↦
        let p : there (tree_by (is_at h) rest) k ≡ true = rw (lower, beside) at part in
        let later = (there-tree rest h k p).1 in
        let out = false_from_ne_true (there cs k) (λ j. both_ways _ (d.0 k j) later) in
        rw (lower, beside, isnt-at object rest k d.2 later, out) (children-in-tree h k rest d.4 p)
  ]
]

-- what has h on its path stands in the tree at h
pub lies-in-tree : (h k : ℕ) (above : List Object) (f : Forest Object) → IsDistinct f → list_any (is_at h) above ≡ false → list_any (is_at h) (path_by (is_at k) above f) ≡ true → there (tree_by (is_at h) f) k ≡ true
lies-in-tree h k above Empty d out on = absurd (false≢true on)
lies-in-tree h k above (Tree object cs rest) d out on = elim (cases_Bool (is_at h object)) [
  | inl top ↦ elim (cases_Bool (is_at k object)) [
    | inl is ↦ rw top (or_left _ _ is)
    | inr isnt ↦ elim (cases_Bool (there cs k)) [
      | inl inner ↦ rw top (or_right _ _ (or_left _ _ inner))
      | inr off ↦
          let later = lies-in-tree h k above rest d.4 out (rw (isnt, off) at on) in
          let i = (there-tree rest h k later).0 in
          let gone : there rest h ≡ false = ap (there rest) (sym (eqb-true object.handle h top)) ∙ d.2 in
          absurd (both_ways _ gone i)
    ]
  ]
  | inr lower ↦ elim (cases_Bool (is_at k object)) [
    | inl is ↦ absurd (both_ways _ (or_from _ _ lower out) (rw is at on))
    | inr isnt ↦ elim (cases_Bool (there cs k)) [
      | inl inner ↦
          let part = lies-in-tree h k (object ∷ above) cs d.3 (or_from _ _ lower out) (rw (isnt, inner) at on) in
          rw (lower, (there-tree cs h k part).0) part
      | inr off ↦
          let part = lies-in-tree h k above rest d.4 out (rw (isnt, off) at on) in
          let i = (there-tree rest h k part).0 in
          let gone = false_from_ne_true (there cs h) (λ j. both_ways _ (d.0 h j) i) in
          rw (lower, gone) part
    ]
  ]
]

-- Above h stands its parent.
root-there : (h : ℕ) (f : Forest Object) → list_any (is_at h) (roots f) ≡ true → there f h ≡ true
root-there h Empty i = i
root-there h (Tree object cs rest) i = grind (arith, nat_tests, root-there h rest)

child-there : (h p : ℕ) (f : Forest Object) → list_any (is_at h) (roots (children_by (is_at p) f)) ≡ true → (there f h ≡ true) × (there f p ≡ true)
child-there h p Empty i = absurd (false≢true i)
child-there h p (Tree object cs rest) i = grind (arith, nat_tests, root-there h cs, child-there h p cs, child-there h p rest)

root-path : (h : ℕ) (above : List Object) (f : Forest Object) → IsDistinct f → list_any (is_at h) (roots f) ≡ true → above_of (path_by (is_at h) above f) ≡ above
root-path h above Empty d i = absurd (false≢true i)
root-path h above (Tree object cs rest) d i = elim (cases_Bool (is_at h object)) [
  | inl is ↦ rw is refl
  | inr isnt ↦
      let root : list_any (is_at h) (roots rest) ≡ true = rw isnt at i in
      let out = false_from_ne_true (there cs h) (λ j. both_ways _ (d.0 h j) (root-there h rest root)) in
      rw (isnt, out) (root-path h above rest d.4 root)
]

child-path : (h p : ℕ) (above : List Object) (f : Forest Object) → IsDistinct f → list_any (is_at h) (roots (children_by (is_at p) f)) ≡ true →
    above_of (path_by (is_at h) above f) ≡ path_by (is_at p) above f
child-path h p above Empty d i = refl
child-path h p above (Tree object cs rest) d i = elim (cases_Bool (is_at p object)) [
  | inl top ↦
      let root : list_any (is_at h) (roots cs) ≡ true = rw top at i in
      let inner = root-there h cs root in
      rw (isnt-at object cs h d.1 inner, inner, top) (root-path h (object ∷ above) cs d.3 root)
  | inr lower ↦ elim (cases_Bool (there cs p)) [
    | inl below ↦
        let child : list_any (is_at h) (roots (children_by (is_at p) cs)) ≡ true = rw (lower, below) at i in
        let inner = (child-there h p cs child).0 in
        rw (isnt-at object cs h d.1 inner, inner, lower, below) (child-path h p (object ∷ above) cs d.3 child)
    | inr beside ↦
        let child : list_any (is_at h) (roots (children_by (is_at p) rest)) ≡ true = rw (lower, beside) at i in
        let later = (child-there h p rest child).0 in
        let out = false_from_ne_true (there cs h) (λ j. both_ways _ (d.0 h j) later) in
        rw (isnt-at object rest h d.2 later, out, lower, beside) (child-path h p above rest d.4 child)
  ]
]

-- nothing stands above itself
above-avoids : (h : ℕ) (above : List Object) (f : Forest Object) → IsDistinct f → list_any (is_at h) above ≡ false → list_any (is_at h) (above_of (path_by (is_at h) above f)) ≡ false
above-avoids h above Empty d out = refl
above-avoids h above (Tree object cs rest) d out = elim (cases_Bool (is_at h object)) [
  | inl is ↦ rw is out
  | inr isnt ↦ elim (cases_Bool (there cs h)) [
    | inl inner ↦ rw (isnt, inner) (above-avoids h (object ∷ above) cs d.3 (or_from _ _ isnt out))
    | inr off ↦ rw (isnt, off) (above-avoids h above rest d.4 out)
  ]
]

pub parent-avoids : (h p : ℕ) (f : Forest Object) → IsDistinct f → list_any (is_at h) (roots (children_by (is_at p) f)) ≡ true → list_any (is_at h) (path_by (is_at p) [] f) ≡ false
parent-avoids h p f d i = ap (list_any (is_at h)) (sym (child-path h p [] f d i)) ∙ above-avoids h [] f d refl

-- The tree is put among the children of p.
pub record Puts (h : ℕ) (t : Forest Object) (g : Forest Object → Forest Object) : Type 0 where
  pub tree : (cs : Forest Object) → there cs h ≡ false → tree_by (is_at h) (g cs) ≡ t
  pub root : (cs : Forest Object) → list_any (is_at h) (roots (g cs)) ≡ true

module _ (h p : ℕ) (t : Forest Object) (g : Forest Object → Forest Object) (puts : Puts h t g) where
  abbrev put : Forest Object → Forest Object
  put = with_children_by (is_at p) g

  has-put : (f : Forest Object) → there f p ≡ true → there (put f) h ≡ true
  has-put Empty i = absurd (false≢true i)
  has-put (Tree object cs rest) i = elim (cases_Bool (is_at p object)) [
    | inl top ↦ rw top (or_right _ _ (or_left _ _ (root-there h (g cs) (puts.root cs))))
    | inr lower ↦ rw lower (let a = has-put cs in let b = has-put rest in grind (arith, nat_tests))
  ]

  tree-put : (f : Forest Object) → there f p ≡ true → there f h ≡ false → tree_by (is_at h) (put f) ≡ t
  tree-put Empty i out = absurd (false≢true i)
  tree-put (Tree object cs rest) i out =
      let a : (is_at h object ≡ false) × ((there cs h || there rest h) ≡ false) = or_parts _ _ out in
      let b : (there cs h ≡ false) × (there rest h ≡ false) = or_parts _ _ a.1 in
      elim (cases_Bool (is_at p object)) [
        | inl top ↦ rw (top, a.0, root-there h (g cs) (puts.root cs)) (puts.tree cs b.0)
        | inr lower ↦ elim (cases_Bool (there cs p)) [
          | inl below ↦ rw (lower, a.0, has-put cs below) (tree-put cs below b.0)
          | inr off ↦
              let later : there rest p ≡ true = rw (lower, off) at i in
              rw (lower, a.0, with_children-off cs p g off, b.0) (tree-put rest later b.1)
        ]
      ]

  -- p itself stands where it stood
  own-has : (f : Forest Object) → there (put f) p ≡ there f p
  own-has Empty = refl
  own-has (Tree object cs rest) = elim (cases_Bool (is_at p object)) [
    | inl top ↦ rw (top, top) refl
    | inr lower ↦ rw (lower, lower, own-has cs, own-has rest) refl
  ]

  pub own-path : (above : List Object) (f : Forest Object) → path_by (is_at p) above (put f) ≡ path_by (is_at p) above f
  own-path above Empty = refl
  own-path above (Tree object cs rest) = elim (cases_Bool (is_at p object)) [
    | inl top ↦ rw (top, top) refl
    | inr lower ↦ rw (lower, lower, own-has cs, own-path (object ∷ above) cs, own-path above rest) refl
  ]

  child-put : (f : Forest Object) → there f p ≡ true → list_any (is_at h) (roots (children_by (is_at p) (put f))) ≡ true
  child-put Empty i = absurd (false≢true i)
  child-put (Tree object cs rest) i = elim (cases_Bool (is_at p object)) [
    | inl top ↦ rw (top, top) (puts.root cs)
    | inr lower ↦ elim (cases_Bool (there cs p)) [
      | inl below ↦ rw (lower, lower, own-has cs, below) (child-put cs below)
      | inr off ↦ rw (lower, lower, own-has cs, off) (child-put rest (rw (lower, off) at i))
    ]
  ]

  -- what stands in the tree keeps its path and its children
  module _ (f left : Forest Object) (d : IsDistinct f) (e : IsDistinct (put left)) (same : tree_by (is_at h) f ≡ t) (child : list_any (is_at h) (roots (children_by (is_at p) f)) ≡ true)
      (on : there left p ≡ true) (out : there left h ≡ false) (path : path_by (is_at p) [] left ≡ path_by (is_at p) [] f) (k : ℕ) (part : there (tree_by (is_at h) f) k ≡ true) where
    trees : tree_by (is_at h) (put left) ≡ tree_by (is_at h) f
    trees = tree-put left on out ∙ sym same

    part-after : there (tree_by (is_at h) (put left)) k ≡ true
    part-after = ap (λ g. there g k) trees ∙ part

    pub path-kept : path_by (is_at k) [] (put left) ≡ path_by (is_at k) [] f
    path-kept =
        path-in-tree h k [] (put left) e part-after
        ∙ ap (λ above. path_by (is_at k) above (tree_by (is_at h) (put left))) (child-path h p [] (put left) e (child-put left on) ∙ own-path [] left ∙ path ∙ sym (child-path h p [] f d child))
        ∙ ap (path_by (is_at k) (above_of (path_by (is_at h) [] f))) trees
        ∙ sym (path-in-tree h k [] f d part)

    pub children-kept : children_by (is_at k) (put left) ≡ children_by (is_at k) f
    children-kept = children-in-tree h k (put left) e part-after ∙ ap (children_by (is_at k)) trees ∙ sym (children-in-tree h k f d part)

-- The tree at h alone has h as its only root.
pub record IsTreeAt (h : ℕ) (t : Forest Object) : Type 0 where
  pub object : Object
  pub children : Forest Object
  pub tree : t ≡ Tree object children Empty
  pub named : is_at h object ≡ true

pub tree-at : (h : ℕ) (f : Forest Object) → there f h ≡ true → IsTreeAt h (tree_by (is_at h) f)
tree-at h Empty i = absurd (false≢true i)
tree-at h (Tree object cs rest) i = elim (cases_Bool (is_at h object)) [
  | inl is ↦ rw is (record { object = object; children = cs; tree = refl; named = is })
  | inr isnt ↦ elim (cases_Bool (there cs h)) [
    | inl below ↦ rw (isnt, below) (tree-at h cs below)
    | inr beside ↦ rw (isnt, beside) (tree-at h rest (rw (isnt, beside) at i))
  ]
]

module _ (h : ℕ) (object : Object) (kids : Forest Object) (named : is_at h object ≡ true) where
  abbrev one : Forest Object
  one = Tree object kids Empty

  put-tree : (n : ℕ) (cs : Forest Object) → there cs h ≡ false → tree_by (is_at h) (put_at n one cs) ≡ one
  put-tree zero cs out = rw named refl
  put-tree (suc n) Empty out = rw named refl
  put-tree (suc n) (Tree o ds rest) out =
      let a : (is_at h o ≡ false) × ((there ds h || there rest h) ≡ false) = or_parts _ _ out in
      let b : (there ds h ≡ false) × (there rest h ≡ false) = or_parts _ _ a.1 in
      rw (a.0, b.0) (put-tree n rest b.1)

  put-root : (n : ℕ) (cs : Forest Object) → list_any (is_at h) (roots (put_at n one cs)) ≡ true
  put-root zero cs = or_left _ _ named
  put-root (suc n) Empty = or_left _ _ named
  put-root (suc n) (Tree o ds rest) = or_right _ _ (put-root n rest)

  last-tree : (cs : Forest Object) → there cs h ≡ false → tree_by (is_at h) (and_then cs one) ≡ one
  last-tree Empty out = rw named refl
  last-tree (Tree o ds rest) out =
      let a : (is_at h o ≡ false) × ((there ds h || there rest h) ≡ false) = or_parts _ _ out in
      let b : (there ds h ≡ false) × (there rest h ≡ false) = or_parts _ _ a.1 in
      rw (a.0, b.0) (last-tree rest b.1)

  last-root : (cs : Forest Object) → list_any (is_at h) (roots (and_then cs one)) ≡ true
  last-root Empty = or_left _ _ named
  last-root (Tree o ds rest) = or_right _ _ (last-root rest)

pub puts-at : (h n : ℕ) (t : Forest Object) → IsTreeAt h t → Puts h t (put_at n t)
puts-at h n t at = rw at.tree (record { tree = put-tree h at.object at.children at.named n; root = put-root h at.object at.children at.named n })

pub puts-last : (h : ℕ) (t : Forest Object) → IsTreeAt h t → Puts h t (λ cs. and_then cs t)
puts-last h t at = rw at.tree (record { tree = last-tree h at.object at.children at.named; root = last-root h at.object at.children at.named })
