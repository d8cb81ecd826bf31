-- A stream that was worked out by hand: a picture of 4 by 2 pixels, red at column 1 of line 0 and green beside it, and a
-- frame.
use Rattle.std.specs.Prelude.{◌≡◌, ℕ, pos, List, [], ◌∷◌, ◌++◌}
use Rattle.gui_base.specs.declared.color.Rgb565.{Rgb565}
use Rattle.gui_base.specs.Color.{black}
use Rattle.gui_base.specs.Ppm.{ppm}
use Rattle.gui_color.specs.Buffer.{Buffer}
use Rattle.panel_stream.specs.Viewer.{replayed, sizes_bytes, area_bytes, frame_bytes}

abbrev color : ℕ → Rgb565
color n = record { 0 = n }

abbrev red_and_green : Buffer
red_and_green = record {
  area = record { x1 = pos 1; y1 = pos 0; x2 = pos 2; y2 = pos 0 };
  pixels = color 63488 ∷ color 2016 ∷ [];
  limit = 2;
}

abbrev worked : List ℕ
worked =
    83 ∷ 0 ∷ 4 ∷ 0 ∷ 2 ∷ 65 ∷ 0 ∷ 1 ∷ 0 ∷ 0 ∷ 0 ∷ 2 ∷ 0 ∷ 1 ∷ 248 ∷ 0 ∷ 7 ∷ 224 ∷ 70 ∷ []

abbrev shown : List Rgb565
shown =
    black ∷ color 63488 ∷ color 2016 ∷ black ∷ black ∷ black ∷ black ∷ black ∷ []

-- a colour of which a byte is missing, after a byte of no kind
abbrev cut : List ℕ
cut = 120 ∷ 83 ∷ 0 ∷ 1 ∷ 0 ∷ 1 ∷ 65 ∷ 0 ∷ 0 ∷ 0 ∷ 0 ∷ 0 ∷ 1 ∷ 0 ∷ 1 ∷ 248 ∷ []

pub record StreamIsWorked : Type 0 where
  pub sends : sizes_bytes 4 2 ++ (area_bytes red_and_green ++ frame_bytes) ≡ worked
  pub viewed : replayed worked
      ≡ record { width = 4; height = 2; pixels = shown; frames = ppm 4 2 shown; kept = [] }
  pub cut_shows : (replayed cut).pixels ≡ black ∷ []
  pub cut_keeps : (replayed cut).kept ≡ 65 ∷ 0 ∷ 0 ∷ 0 ∷ 0 ∷ 0 ∷ 1 ∷ 0 ∷ 1 ∷ 248 ∷ []
