-- Objects that are told: each of them is let go, and listed where it is marked, or has changed since it was told last.
use Rattle.std.specs.Prelude.{◌≡◌, ◌≤◌, ◌<◌, ◌+◌, ◌⊎◌, ℕ, Bool, true, false, List}
use Rattle.gui_base.specs.Forest.{Forest, has}
use Rattle.gui_base.specs.declared.Handle.{Handle}
use Rattle.gui_boxes.specs.Layouts.{ButTold}
use Rattle.gui_boxes.specs.Listing.{times}
use Rattle.gui_boxes.specs.Settled.{Layout}
use Rattle.gui_boxes.specs.Standing.{reported_at}
use Rattle.gui_boxes.specs.Touched.{IsAtRest, is_touched, standing_at}

-- an object has no mark, and it stands, and moves its children, as it was told last
pub record IsSame (m : ℕ → Bool) (l : Layout) (k : ℕ) : Type 0 where
  pub unmarked : m k ≡ false
  pub told : reported_at l.reported k ≡ standing_at l k

-- a touched object is let go, and listed once more but where it is the same
pub record IsTold (m : ℕ → Bool) (old new : Layout) (was is : List Handle) (k : ℕ) : Type 0 where
  pub touched : is_touched old k ≡ true
  pub rests : IsAtRest new k
  pub more : ℕ
  pub listed : times is k ≡ times was k + more
  pub once : more ≤ 1
  pub none : more ≡ 0 → IsSame m old k
  pub only : IsSame m old k → more ≡ 0

-- nothing of this is so
pub record IsUntold (old new : Layout) (was is : List Handle) (k : ℕ) : Type 0 where
  pub touched : is_touched new k ≡ is_touched old k
  pub reported : reported_at new.reported k ≡ reported_at old.reported k
  pub listed : times is k ≡ times was k

-- some objects of a forest are told, and nothing else changes
pub record Tells (f : Forest ℕ) (m : ℕ → Bool) (old new : Layout) (was is : List Handle) : Type 0 where
  pub rest : ButTold old new
  pub each : (k : ℕ) → IsUntold old new was is k ⊎ IsTold m old new was is k
  pub there : (k : ℕ) → is_touched old k ≡ true → is_touched new k ≡ false → has f k ≡ true

-- none but objects of a forest are listed, each once, and none that is touched
pub record ListsLeft (f : Forest ℕ) (t : ℕ → Bool) (hs : List Handle) : Type 0 where
  pub once : (k : ℕ) → times hs k ≤ 1
  pub there : (k : ℕ) → 0 < times hs k → has f k ≡ true
  pub left : (k : ℕ) → t k ≡ true → times hs k ≡ 0
