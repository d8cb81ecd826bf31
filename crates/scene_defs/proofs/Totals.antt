-- Sums over the objects of trees, as the trees change.
use Rattle.std.proofs.Common.{◌≡◌, ◌≤◌, ℕ, zero, suc, ◌+◌, Bool, true, false, cond, eqb, Some, refl, arith}
use Rattle.std.proofs.lemmas.Bool.Decides.{nat_tests}
use Rattle.gui_base.specs.Forest.{Forest, Empty, Tree, and_then, put_at, cut_by, tree_by, depth_by, with_children_by, with_row_by, size, count}
use Rattle.gui_pool.specs.Texts.{need_of as chunks_of}
use Rattle.scene_defs.specs.Scene.{Object, is_at, handles_of, object_by, chunks_in}
use Rattle.scene_defs.proofs.Distinct.{there, IsDistinct}

-- Trees without h stay.
pub cut-off : (f : Forest Object) (h : ℕ) → there f h ≡ false → cut_by (is_at h) f ≡ f
cut-off Empty h off = refl
cut-off (Tree object cs rest) h off = grind (arith, nat_tests, cut-off cs h, cut-off rest h)

pub with_children-off : (f : Forest Object) (p : ℕ) (g : Forest Object → Forest Object) → there f p ≡ false → with_children_by (is_at p) g f ≡ f
with_children-off Empty p g off = refl
with_children-off (Tree object cs rest) p g off = grind (arith, nat_tests, with_children-off cs p g, with_children-off rest p g)

with_row-off : (f : Forest Object) (h : ℕ) (set : Object → Object) → there f h ≡ false → with_row_by (is_at h) set f ≡ f
with_row-off Empty h set off = refl
with_row-off (Tree object cs rest) h set off = grind (arith, nat_tests, with_row-off cs h set, with_row-off rest h set)

-- the sum of w over all objects
abbrev pub total : (Object → ℕ) → Forest Object → ℕ
total w Empty = 0
total w (Tree object cs rest) = w object + (total w cs + total w rest)

module _ (w : Object → ℕ) where
  pub total-cut : (test : Object → Bool) (f : Forest Object) → total w (cut_by test f) ≤ total w f
  total-cut test Empty = omega arith
  total-cut test (Tree object cs rest) = grind (arith, total-cut test cs, total-cut test rest)

  -- what is cut out, and what is left
  pub total-parts : (f : Forest Object) (h : ℕ) → IsDistinct f → total w (cut_by (is_at h) f) + total w (tree_by (is_at h) f) ≡ total w f
  total-parts Empty h d = refl
  total-parts (Tree object cs rest) h d =
      grind (arith, nat_tests, d.0 h, d.2, cut-off cs h, cut-off rest h, total-parts cs h d.3, total-parts rest h d.4)

abbrev pub one : Object → ℕ
one object = 1

-- 1 for the object of k
abbrev pub one_at : ℕ → Object → ℕ
one_at k object = cond (eqb object.handle k) 1 0

pub size-total : (f : Forest Object) → size f ≡ total one f
size-total Empty = refl
size-total (Tree object cs rest) = omega (arith, size-total cs, size-total rest)

pub count-total : (f : Forest Object) (k : ℕ) → count (handles_of f) k ≡ total (one_at k) f
count-total Empty k = refl
count-total (Tree object cs rest) k = rw (count-total cs k, count-total rest k) refl

-- the chunks of an object's text
abbrev pub chunks : Object → ℕ
chunks object = chunks_of object.text

pub chunks-total : (f : Forest Object) → chunks_in f ≡ total chunks f
chunks-total Empty = refl
chunks-total (Tree object cs rest) = rw (chunks-total cs, chunks-total rest) refl

-- what an object weighs, by how many objects lie above it
abbrev pub Weighing : Type 0
Weighing = ℕ → Object → ℕ

-- the sum of what the objects weigh, where d objects lie above the roots
abbrev pub weight : Weighing → ℕ → Forest Object → ℕ
weight w d Empty = 0
weight w d (Tree object cs rest) = w d object + (weight w (suc d) cs + weight w d rest)

pub weight-total : (w : Object → ℕ) (d : ℕ) (f : Forest Object) → weight (λ d. w) d f ≡ total w f
weight-total w d Empty = refl
weight-total w d (Tree object cs rest) = rw (weight-total w (suc d) cs, weight-total w d rest) refl

-- below a root, where only roots weigh otherwise
pub weight-below : (w : Weighing) → ((d : ℕ) (object : Object) → w (suc d) object ≡ w 1 object) → (d : ℕ) (f : Forest Object) → weight w (suc d) f ≡ total (w 1) f
weight-below w each d Empty = refl
weight-below w each d (Tree object cs rest) = rw (each d object, weight-below w each (suc d) cs, weight-below w each d rest) refl

-- what puts the trees t among children
abbrev pub Joins : Forest Object → (Forest Object → Forest Object) → Type 0
Joins t g = (w : Weighing) (d : ℕ) (cs : Forest Object) → weight w d (g cs) ≡ weight w d t + weight w d cs

module _ (w : Weighing) where
  pub weight-and_then : (t : Forest Object) (d : ℕ) (f : Forest Object) → weight w d (and_then f t) ≡ weight w d t + weight w d f
  weight-and_then t d Empty = omega arith
  weight-and_then t d (Tree object cs rest) = omega (arith, weight-and_then t d rest)

  pub weight-put_at : (n : ℕ) (t : Forest Object) (d : ℕ) (f : Forest Object) → weight w d (put_at n t f) ≡ weight w d t + weight w d f
  weight-put_at zero t d f = omega (arith, weight-and_then f d t)
  weight-put_at (suc n) t d Empty = omega arith
  weight-put_at (suc n) t d (Tree object cs rest) = omega (arith, weight-put_at n t d rest)

  -- what is cut out, which e objects lie above, and what is left
  pub weight-cut : (d e h : ℕ) (f : Forest Object) → IsDistinct f → d + depth_by (is_at h) f ≡ suc e →
      weight w d (cut_by (is_at h) f) + weight w e (tree_by (is_at h) f) ≡ weight w d f
  weight-cut d e h Empty o at = refl
  weight-cut d e h (Tree object cs rest) o at =
      grind (arith, nat_tests, at, o.0 h, o.2, cut-off cs h, cut-off rest h, weight-cut (suc d) e h cs o.3, weight-cut d e h rest o.4)

  -- more children of p, which e objects lie above
  pub weight-with_children : (t : Forest Object) (g : Forest Object → Forest Object) → Joins t g → (d e p : ℕ) (f : Forest Object) → IsDistinct f →
      there f p ≡ true → d + depth_by (is_at p) f ≡ e → weight w d (with_children_by (is_at p) g f) ≡ weight w e t + weight w d f
  weight-with_children t g joins d e p Empty o i at = cc
  weight-with_children t g joins d e p (Tree object cs rest) o i at =
      let below = weight-with_children t g joins (suc d) e p cs o.3 in
      let beside = weight-with_children t g joins d e p rest o.4 in
      grind (arith, nat_tests, at, o.0 p, joins w e cs, with_children-off cs p g, with_children-off rest p g, below, beside)

  -- another object at h, which e objects lie above
  pub weight-with_row : (d e h : ℕ) (set : Object → Object) (r : Object) (f : Forest Object) → IsDistinct f → object_by (is_at h) f ≡ Some r →
      d + depth_by (is_at h) f ≡ suc e → weight w d (with_row_by (is_at h) set f) + w e r ≡ w e (set r) + weight w d f
  weight-with_row d e h set r Empty o is at = cc
  weight-with_row d e h set r (Tree object cs rest) o is at =
      let below = weight-with_row (suc d) e h set r cs o.3 in
      let beside = weight-with_row d e h set r rest o.4 in
      grind (arith, nat_tests, is, at, o.0 h, o.1, o.2, with_row-off cs h set, with_row-off rest h set, below, beside)
