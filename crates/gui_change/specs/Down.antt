-- What is seen again below objects that are seen elsewhere.
use Rattle.std.specs.Prelude.{◌≡◌, ◌⊎◌, ℕ, false, Some}
use Rattle.std.specs.declared.option.Option.{Option}
use Rattle.gui_base.specs.Area.{Rect}
use Rattle.gui_base.specs.Forest.{parent_of}
use Rattle.gui_damage.specs.Gridded.{GridList}
use Rattle.gui_pool.specs.Table.{Table, value_at}
use Rattle.scene_defs.specs.Scene.{Scene, handles_of}
use Rattle.debt_defs.specs.Same.{same_visible}
use Rattle.gui_change.specs.Sees.{IsSeenIn, SeesAgain}
use Rattle.gui_debts.specs.Owed.{sight_of}
use Rattle.gui_debts.specs.declared.seen.Seen.{Seen}

-- where an object is seen by what is known of it
abbrev pub visible_known : Table Seen → ℕ → Option Rect
visible_known t k = (sight_of (value_at t k)).visible

-- of the children of what is seen elsewhere what is known is what is seen of them
abbrev pub ClosesDown : Scene → Table Seen → Table Seen → Type 0
ClosesDown scene old new =
    (k p : ℕ) → parent_of (handles_of scene.trees) k ≡ Some p →
    same_visible (visible_known old p) (visible_known new p) ≡ false → IsSeenIn new scene k

-- objects are seen again, and all children of those that are seen elsewhere
pub record SeesDown (named : Option ℕ) (scene : Scene) (old new : Table Seen) (before after : GridList) : Type 0 where
  pub sees : SeesAgain named scene old new before after
  pub closes : ClosesDown scene old new
  -- of each it is known what was known, or what is seen of it
  pub either : (k : ℕ) → value_at new k ≡ value_at old k ⊎ IsSeenIn new scene k
