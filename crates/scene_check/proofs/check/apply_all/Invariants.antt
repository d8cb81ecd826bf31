use Rattle.std.proofs.Common.{◌≡◌, drop}
use Rattle.gui_store.specs.Views.{scene_of}
use Rattle.scene_check.specs.Checking.{refusal_of_all, changed_by_all}
use Rattle.scene_check.proofs.check.apply_all.Given as goal

-- the changes to come make of the scene what all of them make of the one that was
abbrev pub invariant-loop-change : goal.invariant-loop-change
invariant-loop-change l =
    (refusal_of_all (scene_of l.store) (drop l.change-index l.lines) ≡ refusal_of_all (scene_of l.initial.store) l.lines)
    × (changed_by_all (scene_of l.store) (drop l.change-index l.lines) ≡ changed_by_all (scene_of l.initial.store) l.lines)
