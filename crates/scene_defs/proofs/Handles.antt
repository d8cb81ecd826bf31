-- What is found by the handles of trees is found by their rows.
use Rattle.std.proofs.Common.{◌≡◌, ℕ, eqb, None, is_some, arith}
use Rattle.gui_base.specs.Forest.{Forest, height, has, tree_at, tree_by, parent_of, parent_by, depth_of, depth_by}
use Rattle.gui_base.proofs.Forests.{map-height, map-has_by, map-tree_by, map-depth_by, map-parent_by}
use Rattle.scene_defs.specs.Scene.{Object, handle_of, handles_of, is_at}
use Rattle.scene_defs.proofs.Distinct.{there}

module _ (f : Forest Object) (h : ℕ) where
  pub has-handles : has (handles_of f) h ≡ there f h
  has-handles = map-has_by handle_of (λ k. eqb k h) f

  pub depth-handles : depth_of (handles_of f) h ≡ depth_by (is_at h) f
  depth-handles = map-depth_by handle_of (λ k. eqb k h) f

  pub parent-handles : is_some (parent_of (handles_of f) h) ≡ is_some (parent_by (is_at h) None f)
  parent-handles = grind (arith, map-parent_by handle_of (λ k. eqb k h) None f)

  pub height-handles : height (tree_at (handles_of f) h) ≡ height (tree_by (is_at h) f)
  height-handles = rw (← map-tree_by handle_of (λ k. eqb k h) f) (map-height handle_of (tree_by (is_at h) f))

  pub below-handles : (p : ℕ) → has (tree_at (handles_of f) h) p ≡ there (tree_by (is_at h) f) p
  below-handles p = rw (← map-tree_by handle_of (λ k. eqb k h) f) (map-has_by handle_of (λ k. eqb k p) (tree_by (is_at h) f))
