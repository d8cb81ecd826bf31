use Rattle.std.proofs.Common.{◌≡◌, ◌≤◌, ◌+◌, ◌||◌, ℕ, true, drop}
use Rattle.debt_defs.specs.SceneLook.{is_among}
use Rattle.gui_tree.specs.Handles.{numbers}
use Rattle.gui_boxes.specs.Marks.{is_changed, is_parent, mark_count, most_marks}
use Rattle.gui_concerns.proofs.marking.mark_listed.Given as goal

abbrev pub invariant-loop-h : goal.invariant-loop-h
invariant-loop-h l = record {
  changed : (k : ℕ) → (is_changed l.marks k || is_among (numbers (drop l.h-index l.listed)) k) ≡ (is_changed l.fn.marks k || is_among (numbers l.listed) k);
  parents : (k : ℕ) → is_parent l.marks k ≡ true → is_parent l.fn.marks k ≡ true;
  most : most_marks l.marks ≡ most_marks l.fn.marks;
  count : mark_count l.marks ≤ mark_count l.fn.marks + l.h-index;
}
