-- What follows for shares of bars, knobs of sliders, texts of checkboxes and the bars of scrollable objects.
use Rattle.std.specs.Prelude.{◌≡◌, ◌<◌, ◌≤◌, min, ℕ, true, Some, None, ℤ, ◌≤ℤ◌, ◌-ℤ◌}
use Rattle.gui_base.specs.Area.{Rect, area_at, has_corners, width_of, height_of}
use Rattle.text_defs.specs.Lines.{lines}
use Rattle.widget_defs.specs.Looks.{Look, IsRanged, text_setting}
use Rattle.widget_defs.specs.Items.{share_of, share_area, knob_area, caption_area, right_bar, bottom_bar}

-- a look with another value
abbrev pub with_value : Look → ℤ → Look
with_value look value = record look { value = value }

-- what is filled of so many pixels: nothing at the least value and all at the greatest, never more than all,
-- and at a greater value not less
pub record SharesFollow (look : Look) (n : ℕ) : Type 0 where
  pub least : share_of (with_value look look.min) n ≡ 0
  pub greatest : share_of (with_value look look.max) n ≡ n
  pub within : share_of look n ≤ n
  pub grows :
      (value : ℤ) → look.value ≤ℤ value → value ≤ℤ look.max →
      share_of look n ≤ share_of (with_value look value) n

abbrev pub SharesFollowValues : Type 0
SharesFollowValues = (look : Look) (n : ℕ) → IsRanged look → SharesFollow look n

-- the filled share and the knob lie in a content area of any size
pub record StaysInside (look : Look) (content : Rect) : Type 0 where
  pub share : has_corners content (share_area look content) ≡ true
  pub knob : has_corners content (knob_area look content) ≡ true

abbrev pub KnobsStayInside : Type 0
KnobsStayInside =
    (look : Look) (x y : ℤ) (width height : ℕ) → IsRanged look →
    StaysInside look (area_at x y width height)

-- in the area of a checkbox's text its lines end at newlines alone
abbrev pub CheckboxTextsStayWhole : Type 0
CheckboxTextsStayWhole =
    (look : Look) (content : Rect) →
    lines (text_setting look (Some (width_of (caption_area look content)))) look.text
    ≡ lines (text_setting look None) look.text

-- the same object, whose children are moved so far
abbrev pub moved_by : Look → ℕ × ℕ → Look
moved_by look offset = record look { offset = offset }

-- In one direction a bar begins and ends there, by how far the children are moved, in a place from `low` to
-- `high`: at its first line where they are not moved, at its last one where they are moved as far as they
-- reach, always inside, as long at each offset, and never back at a greater one.
pub record FollowsOffset (low high : ℤ) (reach : ℕ) (begins ends : ℕ → ℤ) : Type 0 where
  pub first : begins 0 ≡ low
  pub last : ends reach ≡ high
  pub inside : (offset : ℕ) → offset ≤ reach → (low ≤ℤ begins offset) × (ends offset ≤ℤ high)
  pub as_long : (offset : ℕ) → offset ≤ reach → ends offset -ℤ begins offset ≡ ends 0 -ℤ begins 0
  pub forward : (less more : ℕ) → less ≤ more → more ≤ reach → begins less ≤ℤ begins more

-- both bars of an object in a place, each along its edge and four pixels wide where there is room
pub record BarsFollow (look : Look) (place : Rect) : Type 0 where
  pub right :
      0 < look.reach.1 →
      FollowsOffset place.y1 place.y2 look.reach.1 (λ offset. (right_bar (moved_by look (0, offset)) place).y1)
      (λ offset. (right_bar (moved_by look (0, offset)) place).y2)
  pub right_edge : (right_bar look place).x2 ≡ place.x2
  pub right_width : width_of (right_bar look place) ≡ min 4 (width_of place)
  pub bottom :
      0 < look.reach.0 →
      FollowsOffset place.x1 place.x2 look.reach.0 (λ offset. (bottom_bar (moved_by look (offset, 0)) place).x1)
      (λ offset. (bottom_bar (moved_by look (offset, 0)) place).x2)
  pub bottom_edge : (bottom_bar look place).y2 ≡ place.y2
  pub bottom_height : height_of (bottom_bar look place) ≡ min 4 (height_of place)

abbrev pub BarsFollowOffsets : Type 0
BarsFollowOffsets = (look : Look) (x y : ℤ) (width height : ℕ) → BarsFollow look (area_at x y width height)
