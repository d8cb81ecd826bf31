-- One step of a walk.
use Rattle.std.proofs.Common.{◌≡◌, ◌∙◌, ◌<◌, length, arith, sym, ap, subst, ℕ, true, Option, Some, option_map}
use Rattle.gui_base.specs.Forest.{Forest, Empty, Tree, roots, has, tree_at, first_root, children_of, next_to, StandsOnce}
use Rattle.gui_base.specs.declared.Handle.{Handle}
use Rattle.gui_tree.specs.Handles.{as_handle}
use Rattle.gui_tree.specs.Walks.{Walk, walk, IsVisit, trees_from}
use Rattle.gui_tree.specs.Parts.{IsWalk, IsNext, whole}
use Rattle.gui_tree.proofs.Parts.{IsDistinct, distinct_once, once-part, has-part, here, walk_begins, walk_goes_on, trees_from-first_of, next_first}

-- a walk over children begins
pub record Starts (f g : Forest ℕ) (first : Option Handle) : Type 0 where
  pub is : IsWalk f first
  pub all : trees_from first f ≡ g

pub starts_below : (f : Forest ℕ) (h : ℕ) (first : Option Handle) → StandsOnce f → first ≡ option_map as_handle (first_root (children_of f h)) → Starts f (children_of f h) first
starts_below f h first once is =
    let begins = walk_begins f h first (distinct_once f once) is in
    record { is = record { once = once; at = begins.next_is }; all = begins.all }

pub starts : (f : Forest ℕ) (first : Option Handle) → StandsOnce f → first ≡ option_map as_handle (first_root f) → Starts f f first
starts f first once is =
    let d = distinct_once f once in
    record {
      is = record { once = once; at = next_first f f first whole d is };
      all = ap (λ (o : Option Handle). trees_from o f) is ∙ trees_from-first_of f f whole d;
    }

-- it goes on
pub record Steps (f : Forest ℕ) (now : Option Handle) (child : Handle) (next : Option Handle) : Type 0 where
  pub is : IsWalk f next
  pub visit : IsVisit (walk f (trees_from now f)) child.0 (walk f (trees_from next f))

pub steps : (f : Forest ℕ) (now : Option Handle) (child : Handle) (next : Option Handle) → IsWalk f now → now ≡ Some child → next ≡ option_map as_handle (next_to f child.0) → Steps f now child next
steps f now child next walks is beside =
    let at = subst (IsNext f) is walks.at in
    let g = walk_goes_on f child next (distinct_once f walks.once) at beside in
    let all = ap (λ (o : Option Handle). trees_from o f) is ∙ g.is in
    record {
      is = record { once = walks.once; at = g.next_is };
      visit = record {
        children = g.children;
        left = all ∙ ap (λ (rest : Forest ℕ). Tree child.0 g.children rest) (sym g.later);
        forest = λ _. f;
        there = has-part g.part child.0 (here child.0 g.children g.rest);
        tree = g.tree;
        below = g.below;
        once = once-part walks.at.part walks.once;
      };
    }

pub shorter : (w v : Walk) (h : ℕ) → IsVisit w h v → length (roots v.left) < length (roots w.left)
shorter w v h visit = rw visit.left (omega arith)

-- a step of a walk over the trees of f
pub record IsChild (f : Forest ℕ) (w : Walk) (h : ℕ) (v : Walk) : Type 0 where
  pub children : Forest ℕ
  pub left : w.left ≡ Tree h children v.left
  pub forest : v.forest ≡ f
  pub there : has f h ≡ true
  pub tree : tree_at f h ≡ Tree h children Empty
  pub below : children_of f h ≡ children
  pub once : IsDistinct (Tree h children v.left)

pub child_in : (f : Forest ℕ) (w v : Walk) (h : ℕ) → w.forest ≡ f → IsVisit w h v → IsChild f w h v
child_in f w v h same visit = record {
  children = visit.children;
  left = visit.left;
  forest = visit.forest ∙ same;
  there = rw same at visit.there;
  tree = rw same at visit.tree;
  below = rw same at visit.below;
  once = distinct_once (Tree h visit.children v.left) (subst StandsOnce visit.left visit.once);
}
