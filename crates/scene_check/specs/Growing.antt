-- What the changes of a scene make of its handles.
use Rattle.std.specs.Prelude.{◌≡◌, ◌+◌, ℕ, eqb, true, false, ◌&&◌, ◌||◌, is_some, List}
use Rattle.gui_base.specs.Forest.{Forest, added_by, has, depth_of, parent_of}
use Rattle.gui_base.specs.declared.words.Kind.{Kind}
use Rattle.scene_defs.specs.declared.Row.{Row}
use Rattle.scene_defs.specs.Edits.{with_object, with_row, with_text}
use Rattle.scene_defs.specs.Scene.{Object, Scene, handles_of}

-- with n, the last child of p
abbrev pub grown : Forest ℕ → ℕ → ℕ → Forest ℕ
grown f n p = added_by (λ k. eqb k p) n f

pub record HandlesGrow : Type 0 where
  pub by_object : (trees : Forest Object) (n p : ℕ) (kind : Kind) →
      handles_of (with_object trees n p kind) ≡ grown (handles_of trees) n p
  pub by_row : (scene : Scene) (h : ℕ) (set : Row → Row) →
      handles_of (with_row scene h set).trees ≡ handles_of scene.trees
  pub by_text : (scene : Scene) (h : ℕ) (text : List ℕ) →
      handles_of (with_text scene h text).trees ≡ handles_of scene.trees
  -- what is there: the same, and n
  pub has_grown : (f : Forest ℕ) (n p k : ℕ) → has (grown f n p) k ≡ (has f k || (has f p && eqb n k))
  -- how deep they stand: n one below p
  pub depth_kept : (f : Forest ℕ) (n p k : ℕ) → eqb n k ≡ false → depth_of (grown f n p) k ≡ depth_of f k
  pub depth_new : (f : Forest ℕ) (n p : ℕ) → has f p ≡ true → has f n ≡ false →
      depth_of (grown f n p) n ≡ depth_of f p + 1
  -- whether they have a parent: n has one
  pub parent_kept : (f : Forest ℕ) (n p k : ℕ) → eqb n k ≡ false → parent_of (grown f n p) k ≡ parent_of f k
  pub parent_new : (f : Forest ℕ) (n p : ℕ) → has f p ≡ true → has f n ≡ false →
      is_some (parent_of (grown f n p) n) ≡ true
