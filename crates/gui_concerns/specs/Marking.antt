-- Which objects are marked.
use Rattle.std.specs.Prelude.{◌≡◌, ◌≤◌, ℕ, Bool, true, false, ◌||◌}
use Rattle.gui_base.specs.Forest.{Forest, has, size}
use Rattle.gui_boxes.specs.declared.marks.Marks.{Marks}
use Rattle.gui_boxes.specs.Marks.{is_changed, is_marked, is_parent, most_marks}

-- only objects of these trees are marked, and each of them may be
pub record AreMarked (marks : Marks) (f : Forest ℕ) : Type 0 where
  pub there : (k : ℕ) → is_marked marks k ≡ true → has f k ≡ true
  pub room : size f ≤ most_marks marks

-- no object is marked, and so many may be
pub record AreUnmarked (marks : Marks) (objects : ℕ) : Type 0 where
  pub none : (k : ℕ) → is_marked marks k ≡ false
  pub most : most_marks marks ≡ objects

-- these objects are marked, besides those that were marked before
pub record AlsoMarks (old new : Marks) (m : ℕ → Bool) : Type 0 where
  pub changed : (k : ℕ) → is_changed new k ≡ (is_changed old k || m k)
  pub parents : (k : ℕ) → is_parent new k ≡ true → is_parent old k ≡ true
