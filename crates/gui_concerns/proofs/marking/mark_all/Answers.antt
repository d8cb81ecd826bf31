use Rattle.std.proofs.Common.{◌≡◌, ◌∙◌, sym, ap, subst, ℕ, ◌||◌}
use Rattle.gui_store.specs.Views.{scene_of}
use Rattle.gui_tree.specs.Walks.{Walk}
use Rattle.scene_defs.specs.Scene.{handles_of}
use Rattle.gui_base.specs.Forest.{Forest, has}
use Rattle.gui_boxes.specs.Marks.{is_changed}
use Rattle.gui_concerns.specs.Marking.{AreMarked}
use Rattle.gui_concerns.proofs.marking.mark_all.Goals as goal

pub mark_trees-requires : goal.mark_trees-requires
mark_trees-requires c = record {
  same = ap (λ (w : Walk). w.forest) c.roots.ensures.walk;
  room = subst (AreMarked c.args.marks.now) (sym c.tree-tree.ensures.forest) c.requires.room;
}

pub returns-clause-marks : goal.returns-clause-marks
returns-clause-marks c =
    let all : c.roots.result.left ≡ handles_of (scene_of c.args.store.now).trees = ap (λ (w : Walk). w.left) c.roots.ensures.walk ∙ c.tree-tree.ensures.forest in
    record {
      changed = λ k. c.mark_trees.ensures.marks.changed k ∙ ap (λ (t : Forest ℕ). is_changed c.args.marks.now k || has t k) all;
      parents = c.mark_trees.ensures.marks.parents;
    }
