-- What is news in a picture for a viewer, along a line of it.
use Rattle.std.specs.Prelude.{◌≡◌, ℕ, ◌+◌, ◌*◌, Bool, true, false, not, ◌&&◌, nat_le, nat_lt, if◌then◌else◌, pos}
use Rattle.std.specs.Prelude.{List, length, map, Some, None}
use Rattle.std.specs.declared.option.Option.{Option}
use Rattle.std.specs.List.{filter, fold, range_with_len}
use Rattle.gui_base.specs.declared.color.Rgb565.{Rgb565}
use Rattle.gui_base.specs.Area.{Rect, area_at, is_within, joined}
use Rattle.gui_color.specs.Buffer.{no_pixel}
use Rattle.session_defs.specs.Formats.{own}
use Rattle.session_defs.specs.Updates.{Sight, none_known, is_number, known_at, number_at, pixel_area, with_area}
use Rattle.session_defs.specs.Updates.{news_area}

-- nothing was told of so many pixels
abbrev pub untold : ℕ → Sight
untold count = record { format = own; sent = none_known count; request = None }

-- whether a pixel has another number than was last sent for it, or none was
abbrev pub is_untold : Sight → List Rgb565 → ℕ → Bool
is_untold sight colors i = not (is_number (known_at sight.sent i) (number_at sight.format colors i))

-- an area with those of some pixels that are untold, from one on
abbrev pub with_untold : ℕ → Sight → List Rgb565 → ℕ → ℕ → Rect → Rect
with_untold width sight colors from count area =
    fold (λ area i. joined area (pixel_area width i)) area
    (filter (is_untold sight colors) (range_with_len from count))

-- A sight of a panel with these sizes: it knows of each pixel, and an open request lies on the panel.
pub record IsSight (width height : ℕ) (sight : Sight) : Type 0 where
  pub many : length sight.sent ≡ width * height
  pub within : (area : Rect) → sight.request ≡ Some area →
      is_within (area_at (pos 0) (pos 0) width height) area ≡ true

-- the area that is due to be sent: that of the request, or what is news of it; with no pixel where there is no
-- request
abbrev pub due_in : ℕ → List Rgb565 → Bool → Sight → Option Rect → Rect
due_in width colors changes sight None = no_pixel
due_in width colors false sight (Some area) = area
due_in width colors true sight (Some area) = news_area width colors sight area

abbrev pub area_due : ℕ → List Rgb565 → Bool → Sight → Rect
area_due width colors changes sight = due_in width colors changes sight sight.request

-- what is known where some pixels from one on get these numbers
abbrev pub with_run : ℕ → ℕ → (ℕ → ℕ) → List (Option ℕ) → List (Option ℕ)
with_run from count numbers known =
    map (λ i. if nat_le from i && nat_lt i (from + count) then Some (numbers i) else known_at known i)
    (range_with_len 0 (length known))

-- the sight after some pixels were sent, and after those of an area were
abbrev pub told_run : ℕ → ℕ → List Rgb565 → Sight → Sight
told_run from count colors sight =
    record sight { sent = with_run from count (number_at sight.format colors) sight.sent }

abbrev pub told : ℕ → List Rgb565 → Rect → Sight → Sight
told width colors area sight =
    record sight { sent = with_area width area (number_at sight.format colors) sight.sent; request = None }
