-- Lists of trees that stand side by side somewhere in a forest of handles, found by the handle of the first.
use Rattle.std.proofs.Common.{◌≡◌, ◌∙◌, refl, sym, ap, subst, ℕ, ◌≤◌, true, false, eqb, Option, Some, option_map, inl, inr, arith, eq-eqb}
use Rattle.std.proofs.lemmas.Bool.{cases_Bool, or_left, or_right, both_ways, false_from_ne_true, false≢true, eqb-true}
use Rattle.std.proofs.lemmas.Bool.Decides.{nat_tests}
use Rattle.gui_base.specs.Forest.{Forest, Empty, Tree, size, height, first_root, has, count, StandsOnce, tree_at, list_from, children_of, next_to}
use Rattle.gui_base.specs.declared.Handle.{Handle}
use Rattle.gui_tree.specs.Handles.{as_handle}
use Rattle.gui_base.proofs.Visits.{IsDistinct as NoTwo, distinct_handles}
pub use Rattle.gui_tree.specs.Walks.{trees_from}
pub use Rattle.gui_tree.specs.Parts.{IsPart, whole, below, beside, first_of, IsNext}

-- each handle stands once, told tree by tree
abbrev pub IsDistinct : Forest ℕ → Type 0
IsDistinct f = NoTwo (λ h. h) f

pub distinct_once : (f : Forest ℕ) → StandsOnce f → IsDistinct f
distinct_once = distinct_handles

pub other_than : (h k : ℕ) (f : Forest ℕ) → has f h ≡ false → has f k ≡ true → eqb h k ≡ false
other_than h k f out i = grind (arith, nat_tests)

pub part_beside : {f : Forest ℕ} {h : ℕ} {cs rest : Forest ℕ} → IsPart f (Tree h cs rest) → IsPart f rest
part_beside whole = beside whole
part_beside (below p) = below (part_beside p)
part_beside (beside p) = beside (part_beside p)

pub part_below : {f : Forest ℕ} {h : ℕ} {cs rest : Forest ℕ} → IsPart f (Tree h cs rest) → IsPart f cs
part_below whole = below whole
part_below (below p) = below (part_below p)
part_below (beside p) = beside (part_below p)

pub has-part : {f g : Forest ℕ} → IsPart f g → (k : ℕ) → has g k ≡ true → has f k ≡ true
has-part whole k i = i
has-part (below p) k i = or_right _ _ (or_left _ _ (has-part p k i))
has-part (beside p) k i = or_right _ _ (or_right _ _ (has-part p k i))

pub distinct-part : {f g : Forest ℕ} → IsPart f g → IsDistinct f → IsDistinct g
distinct-part whole d = d
distinct-part (below p) d = distinct-part p d.3
distinct-part (beside p) d = distinct-part p d.4

count-part : {f g : Forest ℕ} → IsPart f g → (k : ℕ) → count g k ≤ count f k
count-part whole k = omega arith
count-part (below p) k = let l = count-part p k in omega arith
count-part (beside p) k = let l = count-part p k in omega arith

pub once-part : {f g : Forest ℕ} → IsPart f g → StandsOnce f → StandsOnce g
once-part p once k = omega (arith, count-part p k, once k)

pub size-part : {f g : Forest ℕ} → IsPart f g → size g ≤ size f
size-part whole = omega arith
size-part (below p) = let l = size-part p in omega arith
size-part (beside p) = let l = size-part p in omega arith

pub height-part : {f g : Forest ℕ} → IsPart f g → height g ≤ height f
height-part whole = omega arith
height-part (below p) = let l = height-part p in omega arith
height-part (beside p) = let l = height-part p in omega arith

pub here : (h : ℕ) (cs rest : Forest ℕ) → has (Tree h cs rest) h ≡ true
here h cs rest = or_left _ _ (eq-eqb h h refl)

-- what is found by the handle of the first tree of a part
pub record IsFound (f : Forest ℕ) (h : ℕ) (cs rest : Forest ℕ) : Type 0 where
  pub from : list_from f h ≡ Tree h cs rest
  pub tree : tree_at f h ≡ Tree h cs Empty
  pub children : children_of f h ≡ cs
  pub next : next_to f h ≡ first_root rest

pub found : {f : Forest ℕ} {h : ℕ} {cs rest : Forest ℕ} → IsPart f (Tree h cs rest) → IsDistinct f → IsFound f h cs rest
found {h = h} whole d =
    let self : eqb h h ≡ true = eq-eqb h h refl in
    record { from = rw self refl; tree = rw self refl; children = rw self refl; next = rw self refl }
found {h = h} {cs = cs} {rest = rest} (below {h = top} {cs = inner} {rest = later} p) d =
    let i : has inner h ≡ true = has-part p h (here h cs rest) in
    let off : eqb top h ≡ false = other_than top h inner d.1 i in
    let e = found p d.3 in
    record { from = rw (off, i) e.from; tree = rw (off, i) e.tree; children = rw (off, i) e.children; next = rw (off, i) e.next }
found {h = h} {cs = cs} {rest = rest} (beside {h = top} {cs = inner} {rest = later} p) d =
    let i : has later h ≡ true = has-part p h (here h cs rest) in
    let off : eqb top h ≡ false = other_than top h later d.2 i in
    let out : has inner h ≡ false = false_from_ne_true _ (λ e. both_ways _ (d.0 h e) i) in
    let e = found p d.4 in
    record { from = rw (off, out) e.from; tree = rw (off, out) e.tree; children = rw (off, out) e.children; next = rw (off, out) e.next }

-- a handle that is there has a list of trees that begins with it
pub record IsThere (f : Forest ℕ) (h : ℕ) : Type 0 where
  pub children : Forest ℕ
  pub rest : Forest ℕ
  pub part : IsPart f (Tree h children rest)

pub there : (f : Forest ℕ) (h : ℕ) → has f h ≡ true → IsThere f h
there Empty h i = absurd (false≢true i)
there (Tree k cs rest) h i = elim (cases_Bool (eqb k h)) [
  | inl is ↦ subst (IsThere (Tree k cs rest)) (eqb-true _ _ is) (record { children = cs; rest = rest; part = whole })
  | inr isnt ↦ elim (cases_Bool (has cs h)) [
    | inl inner ↦ let t = there cs h inner in record { children = t.children; rest = t.rest; part = below t.part }
    | inr out ↦ let later : has rest h ≡ true = rw (isnt, out) at i in let t = there rest h later in record { children = t.children; rest = t.rest; part = beside t.part }
  ]
]

pub trees_from-first_of : (f g : Forest ℕ) → IsPart f g → IsDistinct f → trees_from (first_of g) f ≡ g
trees_from-first_of f Empty p d = refl
trees_from-first_of f (Tree h cs rest) p d = (found p d).from

pub next_first : (f g : Forest ℕ) (next : Option Handle) → IsPart f g → IsDistinct f → next ≡ first_of g → IsNext f next
next_first f g next p d is =
    let e : trees_from next f ≡ g = ap (λ (o : Option Handle). trees_from o f) is ∙ trees_from-first_of f g p d in
    record { part = subst (IsPart f) (sym e) p; first = is ∙ ap first_of (sym e) }

-- the first of a list that is not empty
pub record IsHead (f : Forest ℕ) (child : Handle) : Type 0 where
  pub children : Forest ℕ
  pub rest : Forest ℕ
  pub is : list_from f child.0 ≡ Tree child.0 children rest
  pub part : IsPart f (Tree child.0 children rest)

head_of : (f g : Forest ℕ) (child : Handle) → list_from f child.0 ≡ g → IsPart f g → Some child ≡ first_of g → IsHead f child
head_of f Empty child from p e = cc
head_of f (Tree h cs rest) child from p e =
    let same : as_handle h ≡ child = cc in
    let number : h ≡ child.0 = ap (λ (k : Handle). k.0) same in
    record {
      children = cs;
      rest = rest;
      is = from ∙ ap (λ k. Tree k cs rest) number;
      part = subst (λ k. IsPart f (Tree k cs rest)) number p;
    }

pub next_head : (f : Forest ℕ) (child : Handle) → IsNext f (Some child) → IsHead f child
next_head f child next = head_of f (list_from f child.0) child refl next.part next.first

pub part_children : (f : Forest ℕ) (h : ℕ) → IsPart f (children_of f h)
part_children Empty h = whole
part_children (Tree k cs rest) h = elim (cases_Bool (eqb k h)) [
  | inl is ↦ rw is (below whole)
  | inr isnt ↦ elim (cases_Bool (has cs h)) [
    | inl inner ↦ rw (isnt, inner) (below (part_children cs h))
    | inr gone ↦ rw (isnt, gone) (beside (part_children rest h))
  ]
]

-- a walk over the children of an object begins with the first
pub record Begins (f : Forest ℕ) (h : ℕ) (first : Option Handle) : Type 0 where
  pub all : trees_from first f ≡ children_of f h
  pub next_is : IsNext f first

pub walk_begins : (f : Forest ℕ) (h : ℕ) (first : Option Handle) → IsDistinct f → first ≡ first_of (children_of f h) → Begins f h first
walk_begins f h first d is =
    let part = part_children f h in
    record {
      all = ap (λ (o : Option Handle). trees_from o f) is ∙ trees_from-first_of f (children_of f h) part d;
      next_is = next_first f (children_of f h) first part d is;
    }

-- it goes on with what stands beside a child
pub record GoesOn (f : Forest ℕ) (child : Handle) (next : Option Handle) : Type 0 where
  pub children : Forest ℕ
  pub rest : Forest ℕ
  pub is : list_from f child.0 ≡ Tree child.0 children rest
  pub part : IsPart f (Tree child.0 children rest)
  pub tree : tree_at f child.0 ≡ Tree child.0 children Empty
  pub below : children_of f child.0 ≡ children
  pub later : trees_from next f ≡ rest
  pub next_is : IsNext f next

pub walk_goes_on : (f : Forest ℕ) (child : Handle) (next : Option Handle) → IsDistinct f → IsNext f (Some child) → next ≡ option_map as_handle (next_to f child.0) → GoesOn f child next
walk_goes_on f child next d now is =
    let head = next_head f child now in
    let e = found head.part d in
    let rest_part = part_beside head.part in
    let next_is : next ≡ first_of head.rest = is ∙ ap (option_map as_handle) e.next in
    record {
      children = head.children;
      rest = head.rest;
      is = head.is;
      part = head.part;
      tree = e.tree;
      below = e.children;
      later = ap (λ (o : Option Handle). trees_from o f) next_is ∙ trees_from-first_of f head.rest rest_part d;
      next_is = next_first f head.rest next rest_part d next_is;
    }
