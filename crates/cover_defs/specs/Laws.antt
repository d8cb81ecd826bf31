-- What follows from the definitions.
use Rattle.std.specs.Prelude.{◌≡◌, ◌==◌, ◌≤◌, nat_le, ℕ, true, fold, sum_by, ℤ, None}
use Rattle.gui_base.specs.Area.{Rect, has}
use Rattle.gui_base.specs.Color.{black, parts}
use Rattle.scene_defs.specs.Picture.{paint, paint_seen}
use Rattle.scene_defs.specs.Scene.{Scene}
use Rattle.scene_defs.specs.Shown.{order, painted}
use Rattle.scene_defs.specs.Walk.{IsShowable}
use Rattle.cover_defs.specs.Cover.{cover, uncovered}
use Rattle.cover_defs.specs.Steps.{handles}
use Rattle.cover_defs.specs.Walks.{remembered, from_handle}

-- opacities from 252 on, and no others, let nothing through
abbrev pub OpaqueFrom252 : Type 0
OpaqueFrom252 = (opa : ℕ) → opa ≤ 255 → (parts opa == 32) ≡ nat_le 252 opa

-- what is painted from a cover on, over black, is the picture
abbrev pub CoverHidesAll : Type 0
CoverHidesAll =
    (scene : Scene) (part : Rect) (x y : ℤ) → has part x y ≡ true →
    fold (paint_seen x y) black (uncovered scene part) ≡ paint scene x y

-- a number of each object that is shown, summed up, is at most that of all objects
abbrev pub EachIsCounted : Type 0
EachIsCounted =
    (scene : Scene) (f : ℕ → ℕ) → IsShowable scene →
    sum_by f (order scene) ≤ sum_by f (handles scene)

-- What a walk that remembers the last cover ends with is the last cover.
abbrev pub RememberedIsLast : Type 0
RememberedIsLast =
    (scene : Scene) (part : Rect) →
    fold (remembered scene part) None (painted scene) ≡ cover scene part

-- A walk that waits for the cover, and goes on from there, meets the cover and all that is painted after it.
abbrev pub WaitedIsUncovered : Type 0
WaitedIsUncovered =
    (scene : Scene) (part : Rect) → IsShowable scene →
    from_handle (cover scene part) (painted scene) ≡ uncovered scene part
