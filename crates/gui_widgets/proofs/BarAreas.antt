-- The bars of a widget, from the numbers that are found for them.
use Rattle.std.proofs.Common.{◌≡◌, refl, ℕ, pos, ◌+ℤ◌, ◌-ℤ◌}
use Rattle.gui_base.specs.Area.{Rect, area_at, common, height_of, width_of}
use Rattle.widget_defs.specs.Items.{bar_length, bar_start, content_of, right_bar, bottom_bar}
use Rattle.widget_defs.specs.Looks.{Look}

module _ (look : Look) (area : Rect) (size inner reach offset length start : ℕ) (long : length ≡ bar_length size inner reach) (at : start ≡ bar_start size length reach offset) where
  pub right-is : size ≡ height_of area → inner ≡ height_of (content_of area look.main) → reach ≡ look.reach.1 → offset ≡ look.offset.1 →
      common area (area_at (area.x2 -ℤ pos 3) (area.y1 +ℤ pos start) 4 length) ≡ right_bar look area
  right-is s i r o = rw (at, long, s, i, r, o) refl

  pub bottom-is : size ≡ width_of area → inner ≡ width_of (content_of area look.main) → reach ≡ look.reach.0 → offset ≡ look.offset.0 →
      common area (area_at (area.x1 +ℤ pos start) (area.y2 -ℤ pos 3) length 4) ≡ bottom_bar look area
  bottom-is s i r o = rw (at, long, s, i, r, o) refl
