-- A walk through trees of named nodes, by first children and next neighbours.
use Rattle.std.proofs.Common.{◌≡◌, ◌∙◌, ◌≤◌, ℕ, Bool, true, false, eqb, eq-eqb, Option, Some, None, option_map, inl, inr, refl, sym, ap, subst, arith}
use Rattle.std.proofs.lemmas.Bool.{cases_Bool, or_left, or_right, false≢true}
use Rattle.std.proofs.lemmas.Bool.Decides.{nat_tests}
use Rattle.std.specs.List.{list_any}
use Rattle.gui_base.specs.declared.Handle.{Handle}
use Rattle.gui_base.specs.Forest.{Forest, Empty, Tree, map_forest, size, first_root, has, has_by, tree_by, children_by, from_by, next_by, roots, count, StandsOnce}

pub count-has : (f : Forest ℕ) (k : ℕ) → has f k ≡ true → 1 ≤ count f k
count-has Empty k i = absurd (false≢true i)
count-has (Tree h cs rest) k i = grind (arith, nat_tests, count-has cs k, count-has rest k)

pub count-off : (f : Forest ℕ) (k : ℕ) → has f k ≡ false → count f k ≡ 0
count-off Empty k i = refl
count-off (Tree h cs rest) k i = grind (arith, nat_tests, count-off cs k, count-off rest k)

module _ {A : Type 0} (name : A → ℕ) where
  abbrev pub is_named : ℕ → A → Bool
  is_named h a = eqb (name a) h

  abbrev pub there : Forest A → ℕ → Bool
  there f k = has_by (is_named k) f

  -- no two nodes have the same name
  abbrev pub IsDistinct : Forest A → Type 0
  IsDistinct Empty = Unit {0}
  IsDistinct (Tree a cs rest) =
      ((k : ℕ) → there cs k ≡ true → there rest k ≡ false) × (there cs (name a) ≡ false) × (there rest (name a) ≡ false) × IsDistinct cs × IsDistinct rest

  count-there : (f : Forest A) (k : ℕ) → there f k ≡ true → 1 ≤ count (map_forest name f) k
  count-there Empty k i = absurd (false≢true i)
  count-there (Tree a cs rest) k i = grind (arith, nat_tests, count-there cs k, count-there rest k)

  pub distinct_once : (f : Forest A) → StandsOnce (map_forest name f) → IsDistinct f
  distinct_once Empty once = tt
  distinct_once (Tree a cs rest) once =
      let below = distinct_once cs (λ k. omega (arith, once k)) in
      let beside = distinct_once rest (λ k. omega (arith, once k)) in
      let apart = λ (k : ℕ). let o : count (map_forest name (Tree a cs rest)) k ≤ 1 = once k in o in
      grind (arith, nat_tests, apart, count-there cs, count-there rest, below, beside)

  abbrev pub name_of : Option A → Option Handle
  name_of o = option_map (λ a. record { 0 = name a }) o

  -- the first tree of this name, and the trees that stand beside it after it
  abbrev pub trees_from : Option Handle → Forest A → Forest A
  trees_from None f = Empty
  trees_from (Some h) f = from_by (is_named h.0) f

  -- these trees stand side by side in the forest
  abbrev Stands : Forest A → Forest A → Type 0
  Stands f g = trees_from (name_of (first_root g)) f ≡ g

  stands_all : (f : Forest A) → Stands f f
  stands_all Empty = refl
  stands_all (Tree a cs rest) = rw (eq-eqb (name a) (name a) refl) refl

  from-there : (f : Forest A) (b : A) (ds es : Forest A) (k : ℕ) → from_by (is_named k) f ≡ Tree b ds es → there f k ≡ true
  from-there Empty b ds es k e = cc
  from-there (Tree a cs rest) b ds es k e = grind (arith, nat_tests, from-there cs b ds es k, from-there rest b ds es k)

  stands_below : (a : A) (cs rest g : Forest A) → IsDistinct (Tree a cs rest) → Stands cs g → Stands (Tree a cs rest) g
  stands_below a cs rest Empty d e = refl
  stands_below a cs rest (Tree b ds es) d e = let i = from-there cs b ds es (name b) e in grind (arith, nat_tests)

  stands_beside : (a : A) (cs rest g : Forest A) → IsDistinct (Tree a cs rest) → Stands rest g → Stands (Tree a cs rest) g
  stands_beside a cs rest Empty d e = refl
  stands_beside a cs rest (Tree b ds es) d e = let i = from-there rest b ds es (name b) e in let out = d.0 (name b) in grind (arith, nat_tests)

  stands_children : (f : Forest A) (h : ℕ) → IsDistinct f → Stands f (children_by (is_named h) f)
  stands_children Empty h d = refl
  stands_children (Tree a cs rest) h d = elim (cases_Bool (is_named h a)) [
    | inl is ↦ rw is (stands_below a cs rest cs d (stands_all cs))
    | inr isnt ↦ elim (cases_Bool (there cs h)) [
      | inl inner ↦ rw (isnt, inner) (stands_below a cs rest (children_by (is_named h) cs) d (stands_children cs h d.3))
      | inr gone ↦ rw (isnt, gone) (stands_beside a cs rest (children_by (is_named h) rest) d (stands_children rest h d.4))
    ]
  ]

  stands_later : (f : Forest A) (b : A) (ds es : Forest A) → IsDistinct f → Stands f (Tree b ds es) → Stands f es
  stands_later Empty b ds es d e = cc
  stands_later (Tree a cs rest) b ds es d e = elim (cases_Bool (is_named (name b) a)) [
    | inl is ↦ let same : rest ≡ es = let i = rw is at e in cc in subst (Stands (Tree a cs rest)) same (stands_beside a cs rest rest d (stands_all rest))
    | inr isnt ↦ elim (cases_Bool (there cs (name b))) [
      | inl inner ↦ stands_below a cs rest es d (stands_later cs b ds es d.3 (rw (isnt, inner) at e))
      | inr gone ↦ stands_beside a cs rest es d (stands_later rest b ds es d.4 (rw (isnt, gone) at e))
    ]
  ]

  -- what is found by the name of the first tree of such a list
  from-opens : (f : Forest A) (k : ℕ) (a : A) (cs rest : Forest A) → from_by (is_named k) f ≡ Tree a cs rest → (tree_by (is_named k) f ≡ Tree a cs Empty) × (next_by (is_named k) f ≡ first_root rest)
  from-opens Empty k a cs rest e = cc
  from-opens (Tree b ds es) k a cs rest e = (grind (arith, nat_tests, from-opens ds k a cs rest, from-opens es k a cs rest), grind (arith, nat_tests, from-opens ds k a cs rest, from-opens es k a cs rest))

  pub tree-opens : (f : Forest A) (k : ℕ) (a : A) → first_root (tree_by (is_named k) f) ≡ Some a → tree_by (is_named k) f ≡ Tree a (children_by (is_named k) f) Empty
  tree-opens Empty k a e = cc
  tree-opens (Tree b ds es) k a e = grind (arith, nat_tests, tree-opens ds k a, tree-opens es k a)

  next_stands : (f g : Forest A) (next : Option Handle) → next ≡ name_of (first_root g) → Stands f g → trees_from next f ≡ g
  next_stands f g next is stands = ap (λ (o : Option Handle). trees_from o f) is ∙ stands

  abbrev pub is_root : Forest A → ℕ → Bool
  is_root f k = list_any (is_named k) (roots f)

  -- a walk over the children of h has come to the trees from `next` on
  abbrev pub HasCome : Forest A → ℕ → Option Handle → Type 0
  HasCome f h next = (next ≡ name_of (first_root (trees_from next f))) × (size (trees_from next f) ≤ size (children_by (is_named h) f))
      × ((k : ℕ) → is_root (trees_from next f) k ≡ true → is_root (children_by (is_named h) f) k ≡ true)

  come_to : (f g : Forest A) (h : ℕ) (next : Option Handle) → next ≡ name_of (first_root g) → trees_from next f ≡ g → size g ≤ size (children_by (is_named h) f) →
      ((k : ℕ) → is_root g k ≡ true → is_root (children_by (is_named h) f) k ≡ true) → HasCome f h next
  come_to f g h next is e few kids = (is ∙ ap (λ t. name_of (first_root t)) (sym e), rw e few, rw e kids)

  -- it begins with the first child
  pub walk_begins : (f : Forest A) (h : ℕ) (first : Option Handle) → IsDistinct f → first ≡ name_of (first_root (children_by (is_named h) f)) → (trees_from first f ≡ children_by (is_named h) f) × HasCome f h first
  walk_begins f h first d is =
      let e = next_stands f (children_by (is_named h) f) first is (stands_children f h d) in
      (e, come_to f (children_by (is_named h) f) h first is e (omega arith) (λ k i. i))

-- it goes on from a child to the trees beside it
pub record GoesOn {A : Type 0} (name : A → ℕ) (f : Forest A) (h : ℕ) (child : Handle) (next : Option Handle) : Type 0 where
  pub node : A
  pub children : Forest A
  pub rest : Forest A
  pub from : trees_from name (Some child) f ≡ Tree node children rest
  pub tree : tree_by (is_named name child.0) f ≡ Tree node children Empty
  pub small : size (Tree node children rest) ≤ size (children_by (is_named name h) f)
  pub below : is_root name (children_by (is_named name h) f) child.0 ≡ true
  pub later : trees_from name next f ≡ rest
  pub come : HasCome name f h next

module _ {A : Type 0} (name : A → ℕ) where
  goes_on : (f g : Forest A) (h : ℕ) (child : Handle) (next : Option Handle) → IsDistinct name f → trees_from name (Some child) f ≡ g → Some child ≡ name_of name (first_root g) → size g ≤ size (children_by (is_named name h) f) →
      ((k : ℕ) → is_root name g k ≡ true → is_root name (children_by (is_named name h) f) k ≡ true) → next ≡ name_of name (next_by (is_named name child.0) f) → GoesOn name f h child next
  goes_on f Empty h child next d e first few kids is = cc
  goes_on f (Tree a cs rest) h child next d e first few kids is =
      let found = from-opens name f child.0 a cs rest e in
      let same : name a ≡ child.0 = let c : child ≡ record { 0 = name a } = cc in sym (ap (λ (k : Handle). k.0) c) in
      let first_is : next ≡ name_of name (first_root rest) = is ∙ ap (name_of name) found.1 in
      let later = next_stands name f rest next first_is (stands_later name f a cs rest d (rw same e)) in
      record { node = a; children = cs; rest = rest; from = e; tree = found.0; small = few; below = kids child.0 (or_left _ _ (eq-eqb _ _ same)); later = later; come = come_to name f rest h next first_is later (omega arith) (λ k i. kids k (or_right _ _ i)) }

  pub walk_goes_on : (f : Forest A) (h : ℕ) (child : Handle) (next : Option Handle) → IsDistinct name f → HasCome name f h (Some child) → next ≡ name_of name (next_by (is_named name child.0) f) → GoesOn name f h child next
  walk_goes_on f h child next d come is = goes_on f (trees_from name (Some child) f) h child next d refl come.0 come.1 come.2 is

-- the same by handles alone
by_itself : (f : Forest ℕ) → map_forest (λ h. h) f ≡ f
by_itself Empty = refl
by_itself (Tree h cs rest) = rw (by_itself cs, by_itself rest) refl

pub distinct_handles : (f : Forest ℕ) → StandsOnce f → IsDistinct (λ h. h) f
distinct_handles f once = distinct_once (λ h. h) f (rw by_itself once)
