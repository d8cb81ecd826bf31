use Rattle.std.proofs.Common.{◌≡◌, ℕ, true, ◌&&◌, ◌||◌, length}
use Rattle.std.specs.List.{list_any}
use Rattle.gui_store.specs.Views.{scene_of}
use Rattle.gui_style.specs.Styles.{is_handle, uses_style}
use Rattle.scene_defs.specs.Scene.{handles_of, is_there}
use Rattle.gui_boxes.specs.Marks.{is_changed, is_parent, most_marks}
use Rattle.gui_concerns.specs.Marking.{AreMarked}
use Rattle.gui_concerns.proofs.marking.mark_users.Given as goal

abbrev pub invariant-loop-user : goal.invariant-loop-user
invariant-loop-user l =
    let scene = scene_of l.store in
    record {
      room : AreMarked l.marks (handles_of scene.trees);
      changed : (k : ℕ) → (is_changed l.marks k || (is_there scene k && list_any (is_handle k) l.users)) ≡ (is_changed l.fn.marks k || (is_there scene k && uses_style scene.book k l.style));
      parents : (k : ℕ) → is_parent l.marks k ≡ true → is_parent l.fn.marks k ≡ true;
      most : most_marks l.marks ≡ most_marks l.fn.marks;
    }

abbrev pub decreases-loop-user : goal.decreases-loop-user
decreases-loop-user l = length l.users
