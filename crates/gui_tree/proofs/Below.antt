-- Walks over the children of an object: what they have ahead lies below it.
use Rattle.std.proofs.Common.{◌≡◌, ◌∙◌, ◌<◌, ◌≤◌, ◌+◌, ◌-◌, ◌||◌, refl, sym, ap, subst, ℕ, Bool, true, false, not, eqb, Option, is_some, option_map, inl, inr, arith}
use Rattle.std.proofs.lemmas.Bool.{cases_Bool, or_cases, or_left, or_right, eqb-true, false≢true}
use Rattle.gui_base.specs.Forest.{Forest, Empty, Tree, size, height, has, first_root, tree_at, children_of, StandsOnce}
use Rattle.gui_base.specs.declared.Handle.{Handle}
use Rattle.gui_tree.specs.Handles.{as_handle}
use Rattle.gui_tree.specs.Walks.{Walk, walk, IsVisit}
use Rattle.gui_tree.proofs.Parts.{IsDistinct, distinct_once, distinct-part, found, here, part_children, size-part, there}
use Rattle.gui_tree.proofs.Steps.{child_in}

-- what lies in some trees lies in others
abbrev pub LieIn : Forest ℕ → Forest ℕ → Type 0
LieIn g t = (k : ℕ) → has g k ≡ true → has t k ≡ true

-- an object that is there begins its own tree
pub tree_is : (f : Forest ℕ) (h : ℕ) → has f h ≡ true → tree_at f h ≡ Tree h (children_of f h) Empty
tree_is Empty h i = absurd (false≢true i)
tree_is (Tree k cs rest) h i = elim (cases_Bool (eqb k h)) [
  | inl is ↦ rw is (ap (λ (j : ℕ). Tree j cs Empty) (eqb-true k h is))
  | inr other ↦ elim (cases_Bool (has cs h)) [
    | inl below ↦ rw (other, below) (tree_is cs h below)
    | inr out ↦ rw (other, out) (tree_is rest h (rw (other, out) at i))
  ]
]

pub own_tree : (f : Forest ℕ) (h : ℕ) → has f h ≡ true → has (tree_at f h) h ≡ true
own_tree f h i = rw (tree_is f h i) (here h (children_of f h) Empty)

-- the tree of an object that has no child
no_children : (f : Forest ℕ) (first : Option Handle) (b : Bool) → first ≡ option_map as_handle (first_root f) → is_some first ≡ not b → b ≡ true → f ≡ Empty
no_children Empty first b is told none = refl
no_children (Tree h cs rest) first b is told none = absurd (false≢true (sym (sym (ap (λ (o : Option Handle). is_some o) is) ∙ (told ∙ ap not none))))

pub leaf_tree : (f : Forest ℕ) (h : ℕ) (first : Option Handle) (b : Bool) → has f h ≡ true → first ≡ option_map as_handle (first_root (children_of f h)) → is_some first ≡ not b → b ≡ true → tree_at f h ≡ Tree h Empty Empty
leaf_tree f h first b i is told none = tree_is f h i ∙ ap (λ (cs : Forest ℕ). Tree h cs Empty) (no_children (children_of f h) first b is told none)

-- a tree is no higher than all
pub tree_low : (f : Forest ℕ) (h : ℕ) → height (tree_at f h) ≤ height f
tree_low Empty h = omega arith
tree_low (Tree k cs rest) h = elim (cases_Bool (eqb k h)) [
  | inl is ↦ rw is (omega arith)
  | inr other ↦ elim (cases_Bool (has cs h)) [
    | inl below ↦ rw (other, below) (let low = tree_low cs h in omega arith)
    | inr out ↦ rw (other, out) (let low = tree_low rest h in omega arith)
  ]
]

-- what stands in the first of these trees stands among them
tree_first : (h : ℕ) (cs rest : Forest ℕ) (k : ℕ) → has (Tree h cs Empty) k ≡ true → has (Tree h cs rest) k ≡ true
tree_first h cs rest k i = elim (or_cases (eqb h k) (has cs k || false) i) [
  | inl is ↦ or_left (eqb h k) (has cs k || has rest k) is
  | inr lower ↦ elim (or_cases (has cs k) false lower) [
    | inl e ↦ or_right (eqb h k) (has cs k || has rest k) (or_left (has cs k) (has rest k) e)
    | inr e ↦ absurd (false≢true e)
  ]
]

-- the children of an object lie in its tree, below it
record LiesBelow (t cs : Forest ℕ) : Type 0 where
  inside : LieIn cs t
  fewer : size cs ≤ size t - 1
  lower : height cs ≤ height t - 1

children_below : (f : Forest ℕ) (h : ℕ) → LiesBelow (tree_at f h) (children_of f h)
children_below Empty h = record { inside = λ k i. i; fewer = omega arith; lower = omega arith }
children_below (Tree j cs rest) h = elim (cases_Bool (eqb j h)) [
  | inl same ↦ rw same (record { inside = λ k i. or_right (eqb j k) (has cs k || false) (or_left (has cs k) false i); fewer = omega arith; lower = omega arith })
  | inr other ↦ elim (cases_Bool (has cs h)) [
    | inl below ↦ rw (other, below) (children_below cs h)
    | inr out ↦ rw (other, out) (children_below rest h)
  ]
]

-- what a walk over the children of h has ahead lies in the tree of h, below h
pub record IsBelow (f : Forest ℕ) (h : ℕ) (w : Walk) : Type 0 where
  pub same : w.forest ≡ f
  pub inside : LieIn w.left (tree_at f h)
  pub fewer : size w.left ≤ size (tree_at f h) - 1
  pub lower : height w.left ≤ height (tree_at f h) - 1

pub record BeginsBelow (f : Forest ℕ) (h : ℕ) (w : Walk) : Type 0 where
  pub is : IsBelow f h w
  pub all : w.left ≡ children_of f h
  pub few : size w.left ≤ size f

pub begins_below : (f : Forest ℕ) (h : ℕ) (w : Walk) → w ≡ walk f (children_of f h) → BeginsBelow f h w
begins_below f h w is =
    let all : w.left ≡ children_of f h = ap (λ (v : Walk). v.left) is in
    let below = children_below f h in
    record {
      is = record {
        same = ap (λ (v : Walk). v.forest) is;
        inside = rw all below.inside;
        fewer = rw all below.fewer;
        lower = rw all below.lower;
      };
      all = all;
      few = rw all (size-part (part_children f h));
    }

-- a step of such a walk
pub record StepsBelow (f : Forest ℕ) (h : ℕ) (w : Walk) (child : ℕ) (v : Walk) : Type 0 where
  pub is : IsBelow f h v
  pub children : Forest ℕ
  pub left : w.left ≡ Tree child children v.left
  pub there : has f child ≡ true
  pub own : has (tree_at f h) child ≡ true
  pub tree : tree_at f child ≡ Tree child children Empty
  pub below : children_of f child ≡ children
  pub once : IsDistinct (Tree child children v.left)
  pub inside : LieIn (tree_at f child) (tree_at f h)
  pub fewer : size (tree_at f child) < size (tree_at f h)
  pub lower : height (tree_at f child) + 1 ≤ height (tree_at f h)

pub steps_below : (f : Forest ℕ) (h : ℕ) (w : Walk) (child : ℕ) (v : Walk) → IsBelow f h w → IsVisit w child v → StepsBelow f h w child v
steps_below f h w child v now visit =
    let g = child_in f w v child now.same visit in
    let inside : LieIn (Tree child g.children v.left) (tree_at f h) = subst (λ (t : Forest ℕ). LieIn t (tree_at f h)) g.left now.inside in
    let fewer : size (Tree child g.children v.left) ≤ size (tree_at f h) - 1 = rw g.left at now.fewer in
    let lower : height (Tree child g.children v.left) ≤ height (tree_at f h) - 1 = rw g.left at now.lower in
    record {
      is = record {
        same = g.forest;
        inside = λ k i. inside k (or_right (eqb child k) (has g.children k || has v.left k) (or_right (has g.children k) (has v.left k) i));
        fewer = omega arith;
        lower = omega arith;
      };
      children = g.children;
      left = g.left;
      there = g.there;
      own = inside child (here child g.children v.left);
      tree = g.tree;
      below = g.below;
      once = g.once;
      inside = λ k i. inside k (tree_first child g.children v.left k (subst (λ (t : Forest ℕ). has t k ≡ true) g.tree i));
      fewer = rw g.tree (omega arith);
      lower = rw g.tree (omega arith);
    }

-- an object with all below it
pub record IsWhole (f : Forest ℕ) (h : ℕ) : Type 0 where
  pub tree : tree_at f h ≡ Tree h (children_of f h) Empty
  pub out : has (children_of f h) h ≡ false

pub whole_tree : (f : Forest ℕ) (h : ℕ) → StandsOnce f → has f h ≡ true → IsWhole f h
whole_tree f h once is =
    let at = there f h is in
    let d = distinct_once f once in
    record { tree = tree_is f h is; out = rw (found at.part d).children (distinct-part at.part d).1 }
