-- Paths up from an object, and its children, where trees are edited elsewhere.
use Rattle.std.proofs.Common.{◌≡◌, ap, ℕ, zero, suc, Bool, true, false, ◌||◌, List, [], ◌∷◌, refl, arith, inl, inr}
use Rattle.std.specs.List.{list_any}
use Rattle.std.proofs.lemmas.Bool.{cases_Bool, or_parts, both_ways, false≢true, false_from_ne_true}
use Rattle.gui_base.specs.Forest.{Forest, Empty, Tree, and_then, put_at, roots, has_by, cut_by, children_by, path_by, with_children_by}

-- An object is found by one test, and what is edited by another.
module _ {A : Type 0} (test edits : A → Bool) where
  -- no node on the way up is edited
  abbrev pub avoids : List A → Forest A → Bool
  avoids above f = list_any edits (path_by test above f)

  path-above : (above : List A) (f : Forest A) → has_by test f ≡ true → avoids above f ≡ false → list_any edits above ≡ false
  path-above above Empty i off = absurd (false≢true i)
  path-above above (Tree row cs rest) i off = elim (cases_Bool (test row)) [
    | inl is ↦ (or_parts _ _ (rw is at off)).1
    | inr isnt ↦ elim (cases_Bool (has_by test cs)) [
      | inl below ↦ (or_parts _ _ (path-above (row ∷ above) cs below (rw (isnt, below) at off))).1
      | inr beside ↦ path-above above rest (rw (isnt, beside) at i) (rw (isnt, beside) at off)
    ]
  ]

  -- nothing that is found lies in a tree that is edited
  pub not-in : (row : A) (above : List A) (cs : Forest A) → edits row ≡ true → has_by test cs ≡ true → avoids (row ∷ above) cs ≡ false → ⊥
  not-in row above cs is i off = both_ways _ (or_parts _ _ (path-above (row ∷ above) cs i off)).0 is

  gone-cut : (f : Forest A) → has_by test f ≡ false → has_by test (cut_by edits f) ≡ false
  gone-cut Empty off = refl
  gone-cut (Tree row cs rest) off = grind (arith, gone-cut cs, gone-cut rest)

  has-cut : (above : List A) (f : Forest A) → avoids above f ≡ false → has_by test (cut_by edits f) ≡ has_by test f
  has-cut above Empty off = refl
  has-cut above (Tree row cs rest) off = elim (cases_Bool (test row)) [
    | inl is ↦ let kept : edits row ≡ false = (or_parts _ _ (rw is at off)).0 in rw kept (rw is refl)
    | inr isnt ↦ elim (cases_Bool (has_by test cs)) [
      | inl below ↦
          let kept : edits row ≡ false = false_from_ne_true _ (λ cut. not-in row above cs cut below (rw (isnt, below) at off)) in
          rw (kept, isnt, has-cut (row ∷ above) cs (rw (isnt, below) at off), below) refl
      | inr beside ↦
          let later = has-cut above rest (rw (isnt, beside) at off) in
          elim (cases_Bool (edits row)) [
            | inl cut ↦ rw (cut, isnt, beside) later
            | inr kept ↦ rw (kept, isnt, gone-cut cs beside, beside) later
          ]
    ]
  ]

  pub path-cut : (above : List A) (f : Forest A) → avoids above f ≡ false → path_by test above (cut_by edits f) ≡ path_by test above f
  path-cut above Empty off = refl
  path-cut above (Tree row cs rest) off = elim (cases_Bool (test row)) [
    | inl is ↦ let kept : edits row ≡ false = (or_parts _ _ (rw is at off)).0 in rw kept (rw is refl)
    | inr isnt ↦ elim (cases_Bool (has_by test cs)) [
      | inl below ↦
          let inner : avoids (row ∷ above) cs ≡ false = rw (isnt, below) at off in
          let kept : edits row ≡ false = false_from_ne_true _ (λ cut. not-in row above cs cut below inner) in
          rw (kept, isnt, has-cut (row ∷ above) cs inner, below) (path-cut (row ∷ above) cs inner)
      | inr beside ↦
          let later = path-cut above rest (rw (isnt, beside) at off) in
          elim (cases_Bool (edits row)) [
            | inl cut ↦ rw (cut, isnt, beside) later
            | inr kept ↦ rw (kept, isnt, gone-cut cs beside, beside) later
          ]
    ]
  ]

  roots-cut : (f : Forest A) → list_any edits (roots f) ≡ false → roots (cut_by edits f) ≡ roots f
  roots-cut Empty off = refl
  roots-cut (Tree row cs rest) off =
      let parts : (edits row ≡ false) × (list_any edits (roots rest) ≡ false) = or_parts _ _ off in
      rw parts.0 (ap (λ rs. row ∷ rs) (roots-cut rest parts.1))

  -- the children of what is found, none of which is edited
  pub children-cut : (above : List A) (f : Forest A) → avoids above f ≡ false → list_any edits (roots (children_by test f)) ≡ false →
      roots (children_by test (cut_by edits f)) ≡ roots (children_by test f)
  children-cut above Empty off kids = refl
  children-cut above (Tree row cs rest) off kids = elim (cases_Bool (test row)) [
    | inl is ↦ let kept : edits row ≡ false = (or_parts _ _ (rw is at off)).0 in rw kept (rw is (roots-cut cs (rw is at kids)))
    | inr isnt ↦ elim (cases_Bool (has_by test cs)) [
      | inl below ↦
          let inner : avoids (row ∷ above) cs ≡ false = rw (isnt, below) at off in
          let kept : edits row ≡ false = false_from_ne_true _ (λ cut. not-in row above cs cut below inner) in
          rw (kept, isnt, has-cut (row ∷ above) cs inner, below) (children-cut (row ∷ above) cs inner (rw (isnt, below) at kids))
      | inr beside ↦
          let later = children-cut above rest (rw (isnt, beside) at off) (rw (isnt, beside) at kids) in
          elim (cases_Bool (edits row)) [
            | inl cut ↦ rw (cut, isnt, beside) later
            | inr kept ↦ rw (kept, isnt, gone-cut cs beside, beside) later
          ]
    ]
  ]

-- What is found stands in none of the trees that are added.
module _ {A : Type 0} (test : A → Bool) where
  -- an edit of a list of trees leaves what is found as it is
  pub record Spares (g : Forest A → Forest A) : Type 0 where
    pub has : (f : Forest A) → has_by test (g f) ≡ has_by test f
    pub path : (above : List A) (f : Forest A) → path_by test above (g f) ≡ path_by test above f
    pub children : (f : Forest A) → roots (children_by test (g f)) ≡ roots (children_by test f)

  path-none : (above : List A) (f : Forest A) → has_by test f ≡ false → path_by test above f ≡ []
  path-none above Empty off = refl
  path-none above (Tree row cs rest) off =
      let a : (test row ≡ false) × ((has_by test cs || has_by test rest) ≡ false) = or_parts _ _ off in
      let b : (has_by test cs ≡ false) × (has_by test rest ≡ false) = or_parts _ _ a.1 in
      rw (a.0, b.0) (path-none above rest b.1)

  pub children-none : (f : Forest A) → has_by test f ≡ false → children_by test f ≡ Empty
  children-none Empty off = refl
  children-none (Tree row cs rest) off =
      let a : (test row ≡ false) × ((has_by test cs || has_by test rest) ≡ false) = or_parts _ _ off in
      let b : (has_by test cs ≡ false) × (has_by test rest ≡ false) = or_parts _ _ a.1 in
      rw (a.0, b.0) (children-none rest b.1)

  module _ (t : Forest A) (off : has_by test t ≡ false) where
    then-has : (f : Forest A) → has_by test (and_then f t) ≡ has_by test f
    then-has Empty = off
    then-has (Tree row cs rest) = rw (then-has rest) refl

    then-path : (above : List A) (f : Forest A) → path_by test above (and_then f t) ≡ path_by test above f
    then-path above Empty = path-none above t off
    then-path above (Tree row cs rest) = rw (then-path above rest) refl

    then-children : (f : Forest A) → roots (children_by test (and_then f t)) ≡ roots (children_by test f)
    then-children Empty = ap roots (children-none t off)
    then-children (Tree row cs rest) = grind (arith, then-children rest)

    pub spares-last : Spares (λ f. and_then f t)
    spares-last = record { has = then-has; path = then-path; children = then-children }

    before-has : (f : Forest A) → has_by test (and_then t f) ≡ has_by test f
    before-has f = go t off where
      go : (s : Forest A) → has_by test s ≡ false → has_by test (and_then s f) ≡ has_by test f
      go Empty o = refl
      go (Tree row cs rest) o = grind (arith, go rest)

    before-path : (above : List A) (f : Forest A) → path_by test above (and_then t f) ≡ path_by test above f
    before-path above f = go t off where
      go : (s : Forest A) → has_by test s ≡ false → path_by test above (and_then s f) ≡ path_by test above f
      go Empty o = refl
      go (Tree row cs rest) o = grind (arith, go rest)

    before-children : (f : Forest A) → roots (children_by test (and_then t f)) ≡ roots (children_by test f)
    before-children f = go t off where
      go : (s : Forest A) → has_by test s ≡ false → roots (children_by test (and_then s f)) ≡ roots (children_by test f)
      go Empty o = refl
      go (Tree row cs rest) o = grind (arith, go rest)

    put-has : (n : ℕ) (f : Forest A) → has_by test (put_at n t f) ≡ has_by test f
    put-has zero f = before-has f
    put-has (suc n) Empty = off
    put-has (suc n) (Tree row cs rest) = rw (put-has n rest) refl

    put-path : (n : ℕ) (above : List A) (f : Forest A) → path_by test above (put_at n t f) ≡ path_by test above f
    put-path zero above f = before-path above f
    put-path (suc n) above Empty = path-none above t off
    put-path (suc n) above (Tree row cs rest) = rw (put-path n above rest) refl

    put-children : (n : ℕ) (f : Forest A) → roots (children_by test (put_at n t f)) ≡ roots (children_by test f)
    put-children zero f = before-children f
    put-children (suc n) Empty = ap roots (children-none t off)
    put-children (suc n) (Tree row cs rest) = grind (arith, put-children n rest)

    pub spares-put : (n : ℕ) → Spares (put_at n t)
    spares-put n = record { has = put-has n; path = put-path n; children = put-children n }

  -- children of another node are edited
  module _ (over : A → Bool) (g : Forest A → Forest A) (spares : Spares g) (other : (a : A) → test a ≡ true → over a ≡ false) where
    with-has : (f : Forest A) → has_by test (with_children_by over g f) ≡ has_by test f
    with-has Empty = refl
    with-has (Tree row cs rest) = elim (cases_Bool (over row)) [
      | inl is ↦ rw (is, spares.has cs) refl
      | inr isnt ↦ rw (isnt, with-has cs, with-has rest) refl
    ]

    pub path-with : (above : List A) (f : Forest A) → path_by test above (with_children_by over g f) ≡ path_by test above f
    path-with above Empty = refl
    path-with above (Tree row cs rest) = elim (cases_Bool (over row)) [
      | inl is ↦ rw (is, spares.has cs, spares.path (row ∷ above) cs) refl
      | inr isnt ↦ rw (isnt, with-has cs, path-with (row ∷ above) cs, path-with above rest) refl
    ]

    roots-with : (f : Forest A) → roots (with_children_by over g f) ≡ roots f
    roots-with Empty = refl
    roots-with (Tree row cs rest) = elim (cases_Bool (over row)) [
      | inl is ↦ rw is refl
      | inr isnt ↦ rw isnt (ap (λ rs. row ∷ rs) (roots-with rest))
    ]

    pub children-with : (f : Forest A) → roots (children_by test (with_children_by over g f)) ≡ roots (children_by test f)
    children-with Empty = refl
    children-with (Tree row cs rest) = elim (cases_Bool (over row)) [
      | inl is ↦
          let isnt : test row ≡ false = false_from_ne_true _ (λ i. both_ways _ (other row i) is) in
          let inner = spares.children cs in
          rw (is, isnt, spares.has cs) (grind (arith, inner))
      | inr isnt ↦
          let inner = children-with cs in
          let later = children-with rest in
          let same = roots-with cs in
          rw (isnt, with-has cs) (grind (arith, inner, later, same))
    ]
