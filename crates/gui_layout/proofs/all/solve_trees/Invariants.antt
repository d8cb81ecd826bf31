use Rattle.std.proofs.Common.{◌≡◌, ℕ, true}
use Rattle.gui_base.specs.Forest.{has}
use Rattle.gui_boxes.specs.Settled.{Layout}
use Rattle.gui_boxes.specs.Touched.{is_touched}
use Rattle.gui_boxes.specs.Tables.{listing_of, told}
use Rattle.gui_store.specs.Views.{scene_of}
use Rattle.gui_layout.specs.Scenes.{scene_box, HoldsBoxes}
use Rattle.gui_layout.proofs.Solves.{Solves}
use Rattle.gui_layout.proofs.all.solve_trees.Given as goal

abbrev pub invariant-loop-root : goal.invariant-loop-root
invariant-loop-root l =
    let f = l.tree.forest in
    let trees = l.root-iterator.left in
    record {
      same : l.root-iterator.forest ≡ f;
      boxes : HoldsBoxes (told l.entries).boxes (scene_of l.store);
      touched : (k : ℕ) → has l.tree.forest k ≡ true → is_touched (told l.entries) k ≡ true;
      listed : listing_of l.entries ≡ listing_of l.fn.entries;
      later : (now : Layout) →
          Solves (scene_box (scene_of l.store)) l.width.pixels l.height.pixels (told l.entries) now trees →
          Solves (scene_box (scene_of l.store)) l.width.pixels l.height.pixels (told l.fn.entries) now f;
    }
