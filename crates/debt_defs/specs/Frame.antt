-- The frame law for looks: what a debt does not hold keeps what is laid on it.
use Rattle.std.specs.Prelude.{◌≡◌, ◌⊎◌, ℕ, Bool, true, false, Some, None, List, ℤ}
use Rattle.std.specs.declared.option.Option.{Option}
use Rattle.std.specs.List.{list_any, filter}
use Rattle.gui_base.specs.Area.{Rect, has}
use Rattle.scene_defs.specs.Shown.{Entry}
use Rattle.scene_defs.specs.Visible.{holds}
use Rattle.debt_defs.specs.SceneLook.{SceneLook, IsSceneLook, layers}
use Rattle.debt_defs.specs.Same.{same_by}
use Rattle.debt_defs.specs.Debt.{is_named, touched_areas}

-- whether one of the areas has the pixel
abbrev pub covered : List Rect → ℤ → ℤ → Bool
covered areas x y = list_any (λ area. has area x y) areas

-- where what a change names is seen
abbrev pub named_area : {I : Type 0} → SceneLook I → Option ℕ → Option Rect
named_area look None = None
named_area look (Some h) = look.visible h

-- an object is seen only inside of what is seen of the named one
abbrev pub IsInside : {I : Type 0} → SceneLook I → Option ℕ → ℕ → Type 0
IsInside look named k =
    (x y : ℤ) → holds (look.visible k) x y ≡ true → holds (named_area look named) x y ≡ true

-- what is painted of the objects that pass a test keeps its order, and each other one is seen inside of the named one alone,
-- before the change or after it
pub record KeepsOrder {I : Type 0} (named : Option ℕ) (before after : SceneLook I) (test : ℕ → Bool) : Type 0 where
  pub order : filter (λ e. test e.handle) before.entries ≡ filter (λ e. test e.handle) after.entries
  pub others : (k : ℕ) → test k ≡ false → IsInside before named k ⊎ IsInside after named k

-- objects with the same items and the same bars lay the same, but for the one that a change names
abbrev pub LaySame : {I : Type 0} → (I → I → Bool) → Option ℕ → SceneLook I → SceneLook I → Type 0
LaySame same named before after =
    (e : Entry) (x y : ℤ) → is_named named e.handle ≡ false →
    same_by same (before.items e.handle) (after.items e.handle) ≡ true →
    same_by same (before.bars e.handle) (after.bars e.handle) ≡ true →
    before.lays e x y ≡ after.lays e x y

abbrev pub FrameOfLooks : Type 0 → Type 0
FrameOfLooks I =
    (same : I → I → Bool) (named : Option ℕ) (before after : SceneLook I) (test : ℕ → Bool) (x y : ℤ) →
    IsSceneLook before → IsSceneLook after → LaySame same named before after → KeepsOrder named before after test →
    covered (touched_areas same named before after) x y ≡ false → layers after x y ≡ layers before x y
