use Rattle.std.proofs.Common.{None, ◌≡◌, ◌≤◌, ℕ, true}
use Rattle.std.specs.Prelude.{◌⊎◌}
use Rattle.gui_base.specs.Forest.{size}
use Rattle.gui_layout.specs.Marked.{is_root}
use Rattle.gui_store.specs.Views.{scene_of}
use Rattle.scene_defs.specs.Scene.{handles_of}
use Rattle.gui_debts.specs.Sightings.{AreSighted}
use Rattle.gui_change.specs.Down.{SeesDown}
use Rattle.gui_change.specs.Sees.{IsSeenIn}
use Rattle.gui_change.proofs.down.+see_heads.Given as goal

abbrev pub decreases-see_heads : goal.decreases-see_heads
decreases-see_heads l = size l.trees.left

abbrev pub invariant-loop-h : goal.invariant-loop-h
invariant-loop-h l =
    let scene = scene_of l.after.store.now in
    let later = l.h-iterator.left in
    record {
      nearby : AreSighted scene l.nearby;
      same : l.h-iterator.forest ≡ handles_of scene.trees;
      fewer : size later ≤ size l.fn.trees.left;
      down : SeesDown None scene l.fn.table l.table l.fn.damage l.damage;
      heads : (k : ℕ) → is_root k l.fn.trees.left ≡ true → is_root k later ≡ true ⊎ IsSeenIn l.table scene k;
    }
