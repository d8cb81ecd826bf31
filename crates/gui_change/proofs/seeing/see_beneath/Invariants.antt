use Rattle.std.proofs.Common.{None, ◌≡◌, ℕ, true}
use Rattle.std.specs.Prelude.{◌⊎◌}
use Rattle.gui_base.specs.Forest.{children_of, has}
use Rattle.gui_store.specs.Views.{scene_of}
use Rattle.scene_defs.specs.Scene.{handles_of}
use Rattle.gui_change.specs.Sees.{IsRoom, IsSeenIn, SeesAgain}
use Rattle.gui_change.proofs.seeing.see_beneath.Given as goal

abbrev pub invariant-loop-child : goal.invariant-loop-child
invariant-loop-child l =
    let scene = scene_of l.after.store.now in
    let later = l.child-iterator.left in
    record {
      room : IsRoom scene.limits.objects l.listed;
      same : l.child-iterator.forest ≡ handles_of scene.trees;
      sees : SeesAgain None scene l.fn.table l.table l.fn.damage l.damage;
      done : (k : ℕ) → has (children_of (handles_of scene.trees) l.fn.h.0) k ≡ true → has later k ≡ true ⊎ IsSeenIn l.table scene k;
    }
