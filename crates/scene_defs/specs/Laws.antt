-- Laws of the changes of a scene.
use Rattle.std.specs.Prelude.{◌≡◌, ◌≢◌, ◌<◌, ◌≤◌, ◌+◌, false, Some, None}
use Rattle.gui_base.specs.Limits.{Bounds}
use Rattle.gui_base.specs.declared.Handle.{Handle}
use Rattle.gui_base.specs.declared.limits.Pool.{Pool}
use Rattle.gui_base.specs.declared.refusal.Refusal.{Refusal}
use Rattle.gui_base.specs.declared.refusal.Refusal.TheVariants.{Range, Full}
use Rattle.scene_defs.specs.declared.Change.{Change}
use Rattle.scene_defs.specs.Deeds.{is_in_range, row_set, row_after}
use Rattle.scene_defs.specs.Scene.{Scene, spare}
use Rattle.scene_defs.specs.Change.{answer_of, need_of, freed_by, changed, scene_after}
use Rattle.scene_defs.specs.Edits.{with_row}
use Rattle.scene_defs.specs.Valid.{IsValid, IsChange}

abbrev pub ChangeKeepsLimits : Type 0
ChangeKeepsLimits = (scene : Scene) (change : Change) → (changed scene change).limits ≡ scene.limits

-- a change that is refused leaves the scene
abbrev pub RefusedChangesNothing : Type 0
RefusedChangesNothing =
    (scene : Scene) (change : Change) (refusal : Refusal) → answer_of scene change ≡ Some refusal →
    changed scene change ≡ scene

-- a number outside its interval is refused before all else
abbrev pub RangeComesFirst : Type 0
RangeComesFirst =
    (scene : Scene) (change : Change) → is_in_range change ≡ false → answer_of scene change ≡ Some Range

-- a pool is full only where it has fewer free slots than are needed
abbrev pub FullWithoutRoom : Type 0
FullWithoutRoom =
    (scene : Scene) (change : Change) (pool : Pool) → answer_of scene change ≡ Some (Full pool) →
    spare scene pool < need_of scene change pool

-- a change is done only where each pool has the slots that it needs
abbrev pub DoneWithRoom : Type 0
DoneWithRoom =
    (scene : Scene) (change : Change) (pool : Pool) → answer_of scene change ≡ None →
    need_of scene change pool ≤ spare scene pool

-- a change that is done takes from each pool the slots that it needs, and gives back those that it frees
abbrev pub SlotsAddUp : Type 0
SlotsAddUp =
    (scene : Scene) (change : Change) (pool : Pool) → IsValid scene → IsChange change →
    answer_of scene change ≡ None →
    spare (changed scene change) pool + need_of scene change pool
    ≡ spare scene pool + freed_by scene change pool

abbrev pub with_limits : Scene → Bounds → Scene
with_limits scene limits = record scene { limits = limits }

-- every other refusal comes whatever the limits are
abbrev pub RefusedWhateverLimits : Type 0
RefusedWhateverLimits =
    (scene : Scene) (limits : Bounds) (change : Change) (refusal : Refusal) →
    ((pool : Pool) → refusal ≢ Full pool) →
    answer_of scene change ≡ Some refusal → answer_of (with_limits scene limits) change ≡ Some refusal

-- a change that sets a row does nothing else
abbrev pub SetsRowAlone : Type 0
SetsRowAlone =
    (scene : Scene) (change : Change) (h : Handle) → row_set change ≡ Some h →
    scene_after scene change ≡ with_row scene h.0 (row_after change)
