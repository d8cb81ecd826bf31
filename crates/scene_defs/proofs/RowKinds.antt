-- What holds of each object and of the roots, as a weight of the trees, and how deep objects lie.
use Rattle.std.proofs.Common.{◌≡◌, ◌≢◌, ◌≤◌, ℕ, zero, suc, ◌+◌, Bool, true, false, cond, eqb, ltb, leb, ◌&&◌, refl, arith, ◌⊎◌, List, Option, Some, None, is_some}
use Rattle.std.proofs.lemmas.Bool.Decides.{nat_tests}
use Rattle.gui_base.specs.Forest.{Forest, Empty, Tree, all_by, tree_by, height, cut_by, depth_by, parent_by}
use Rattle.scene_defs.specs.Scene.{Object, is_at, object_by}
use Rattle.scene_defs.specs.Edits.{has_screen}
use Rattle.text_defs.specs.Images.{Image}
use Rattle.scene_defs.specs.Valid.{in_order, is_root_object, is_plain, have_kinds, is_root_at}
use Rattle.scene_defs.proofs.Distinct.{there, IsDistinct}
use Rattle.scene_defs.proofs.Totals.{one_at, Weighing, weight, cut-off}

-- what follows for each object follows for all
pub all_still : (p q : Object → Bool) → ((object : Object) → p object ≡ true → q object ≡ true) → (f : Forest Object) → all_by p f ≡ true → all_by q f ≡ true
all_still p q each Empty all = refl
all_still p q each (Tree object cs rest) all = grind (arith, nat_tests, all, each object, all_still p q each cs, all_still p q each rest)

-- whether no object lies above
abbrev pub is_top : ℕ → Bool
is_top zero = true
is_top (suc d) = false

both_hold : (kind row : Bool) (x y : ℕ) (kinds rows more_kinds more_rows : Bool) → eqb x 0 ≡ (kinds && rows) → eqb y 0 ≡ (more_kinds && more_rows) →
    eqb (cond (kind && row) 0 1 + (x + y)) 0 ≡ ((kind && (kinds && more_kinds)) && (row && (rows && more_rows)))
both_hold kind row x y kinds rows more_kinds more_rows a b = grind (arith, nat_tests, a, b)

module _ (images : List Image) where
  -- 1 for an object that is not in order
  abbrev pub fault : Weighing
  fault d object = cond (cond (is_top d) (is_root_object object) (is_plain object) && in_order images object) 0 1

  pub faults : (d : ℕ) (f : Forest Object) → eqb (weight fault d f) 0 ≡ (cond (is_top d) (have_kinds f) (all_by is_plain f) && all_by (in_order images) f)
  faults zero (Tree object cs rest) = search (both_hold, faults 1 cs, faults 0 rest)
  faults (suc d) (Tree object cs rest) = search (both_hold, faults (suc (suc d)) cs, faults (suc d) rest)
  faults d Empty = grind arith

-- 1 for the root k
abbrev pub root_at : ℕ → Weighing
root_at k d object = cond (is_top d) (one_at k object) 0

pub roots-weight : (k d : ℕ) (f : Forest Object) → ltb 0 (weight (root_at k) d f) ≡ (is_top d && is_root_at f k)
roots-weight k zero (Tree object cs rest) = grind (arith, nat_tests, roots-weight k 1 cs, roots-weight k 0 rest)
roots-weight k (suc d) (Tree object cs rest) = grind (arith, nat_tests, roots-weight k (suc (suc d)) cs, roots-weight k (suc d) rest)
roots-weight k d Empty = grind arith

-- another root is not in the tree at h
pub roots-tree : (h k d : ℕ) (f : Forest Object) → h ≢ k → weight (root_at k) d (tree_by (is_at h) f) ≡ 0
roots-tree h k zero (Tree object cs rest) ne = grind (arith, nat_tests, roots-weight k 1 cs, roots-tree h k zero cs, roots-tree h k zero rest)
roots-tree h k (suc d) (Tree object cs rest) ne = grind (arith, nat_tests, roots-weight k (suc d) (tree_by (is_at h) (Tree object cs rest)))
roots-tree h k d Empty ne = refl

-- 1 for an object below the depth n
abbrev pub too_low : ℕ → Weighing
too_low n d object = cond (ltb d n) 0 1

pub low-height : (n d : ℕ) (f : Forest Object) → d ≤ n → eqb (weight (too_low n) d f) 0 ≡ leb (height f + d) n
low-height n d Empty fits = grind (arith, nat_tests)
low-height n d (Tree object cs rest) fits = grind (arith, nat_tests, low-height n (suc d) cs, low-height n d rest)

-- A screen is a root, and no layer.
no_screen_below : (h : ℕ) (f : Forest Object) → all_by is_plain f ≡ true → has_screen (object_by (is_at h) f) ≡ false
no_screen_below h Empty a = refl
no_screen_below h (Tree object cs rest) a = grind (arith, nat_tests, no_screen_below h cs, no_screen_below h rest)

pub screen_root : (h : ℕ) (f : Forest Object) → have_kinds f ≡ true → has_screen (object_by (is_at h) f) ≡ true →
    (is_root_at f h ≡ true) × (h ≢ 1) × (h ≢ 2)
screen_root h Empty a e = cc
screen_root h (Tree object cs rest) a e = grind (arith, nat_tests, no_screen_below h cs, screen_root h rest)

pub root_there : (f : Forest Object) (k : ℕ) → is_root_at f k ≡ true → there f k ≡ true
root_there Empty k i = cc
root_there (Tree object cs rest) k i = grind (arith, nat_tests, root_there rest k)

-- How deep k lies, and which objects are left where a tree is cut out.
pub depths : (f : Forest Object) (k : ℕ) → (height (tree_by (is_at k) f) ≤ height f) × (depth_by (is_at k) f ≤ height f) ×
    (there f k ≡ true → 1 ≤ depth_by (is_at k) f) × (there f k ≡ false → depth_by (is_at k) f ≡ 0)
depths Empty k = (omega arith, omega arith, λ i. cc, λ off. refl)
depths (Tree object cs rest) k = grind (arith, nat_tests, depths cs k, depths rest k)

-- what has an object above it is no root
pub depth-below : (h : ℕ) (f : Forest Object) → is_some (parent_by (is_at h) None f) ≡ true → 2 ≤ depth_by (is_at h) f
depth-below h Empty up = cc
depth-below h (Tree object cs rest) up = grind (arith, nat_tests, depths cs h, depth-below h rest)

-- what is left was there, and lies no deeper; what was there and is not cut out is left
pub depth-cut : (h : ℕ) (f : Forest Object) (k : ℕ) → IsDistinct f → (there (cut_by (is_at h) f) k ≡ true → there f k ≡ true) ×
    (depth_by (is_at k) (cut_by (is_at h) f) ≤ depth_by (is_at k) f) ×
    (there f k ≡ true → there (tree_by (is_at h) f) k ≡ false → there (cut_by (is_at h) f) k ≡ true)
depth-cut h Empty k d = (λ i. i, omega arith, λ i out. i)
depth-cut h (Tree object cs rest) k d =
    grind (arith, nat_tests, d.0 k, d.0 h, d.2, depths rest k, cut-off cs h, cut-off rest h, depth-cut h cs k d.3, depth-cut h rest k d.4)

-- the object above h is the one that was given, or left where h is cut out
above-left : (h : ℕ) (above : Option Object) (p : Object) (f : Forest Object) → parent_by (is_at h) above f ≡ Some p →
    (above ≡ Some p) ⊎ (there (cut_by (is_at h) f) p.handle ≡ true)
above-left h above p Empty e = cc
above-left h above p (Tree object cs rest) e = grind (arith, nat_tests, e, above-left h (Some object) p cs, above-left h above p rest)

pub parent-left : (f : Forest Object) (h : ℕ) (p : Object) → parent_by (is_at h) None f ≡ Some p → there (cut_by (is_at h) f) p.handle ≡ true
parent-left f h p e = grind (arith, above-left h None p f e)

-- a tree lies below its parent
pub parent-depth : (h : ℕ) (above : Option Object) (p : Object) (f : Forest Object) → IsDistinct f → parent_by (is_at h) above f ≡ Some p →
    (above ≡ Some p) ⊎ (depth_by (is_at p.handle) f + height (tree_by (is_at h) f) ≤ height f)
parent-depth h above p Empty d e = cc
parent-depth h above p (Tree object cs rest) d e =
    let below = parent-depth h (Some object) p cs d.3 in
    let beside = parent-depth h above p rest d.4 in
    let left = above-left h (Some object) p cs in
    let right = above-left h above p rest in
    grind (arith, nat_tests, e, d.0 p.handle, d.1, d.2, depths cs h, left, right, depth-cut h cs p.handle d.3, depth-cut h rest p.handle d.4, below, beside)
