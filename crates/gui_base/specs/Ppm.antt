-- A picture as a Netpbm file of the form P6.
use Rattle.std.specs.Prelude.{ℕ, List, [], ◌∷◌, ◌++◌, codes, decimal}
use Rattle.std.specs.List.{flat_map}
use Rattle.gui_base.specs.declared.color.Rgb565.{Rgb565}
use Rattle.gui_base.specs.Color.{red, green, blue, from_five, from_six}

-- the three bytes of a colour
abbrev pub rgb_bytes : Rgb565 → List ℕ
rgb_bytes c = from_five (red c) ∷ from_six (green c) ∷ from_five (blue c) ∷ []

-- the head of the file: the form, the width, the height, and 255 as the highest value of a channel
abbrev pub ppm_head : ℕ → ℕ → List ℕ
ppm_head width height = codes "P6\n" ++ decimal width ++ codes " " ++ decimal height ++ codes "\n255\n"

-- the file of these colours, row by row
abbrev pub ppm : ℕ → ℕ → List Rgb565 → List ℕ
ppm width height colors = ppm_head width height ++ flat_map rgb_bytes colors
