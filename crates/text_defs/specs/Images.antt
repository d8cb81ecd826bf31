-- Images as their bytes, and how they are built row by row.
use Rattle.std.specs.Prelude.{ℕ, ◌+◌, ◌*◌, Bool, false, not, ◌&&◌, ◌==◌, nat_lt, if◌then◌else◌}
use Rattle.std.specs.Prelude.{List, [], ◌∷◌, ◌++◌, length, slice_index, Some, None, is_some, option_map}
use Rattle.std.specs.declared.option.Option.{Option}
use Rattle.gui_base.specs.declared.color.Rgb565.{Rgb565}
use Rattle.gui_base.specs.declared.words.Format.{Format}
use Rattle.gui_base.specs.declared.words.Format.TheVariants as format
use Rattle.gui_base.specs.Refusing.{Test, Unknown, Taken, Place}
use Rattle.text_defs.specs.declared.Texel.{Texel}

-- an image that a script builds: it takes its rows from the top until it is finished
pub record Image : Type 0 where
  -- its number
  pub name : ℕ
  pub format : Format
  pub width : ℕ
  pub height : ℕ
  -- the bytes of the rows that were given so far, from the top
  pub bytes : List ℕ

-- the bytes of a pixel
abbrev pub texel_size : Format → ℕ
texel_size format.Rgb565 = 2
texel_size format.Rgb565Alpha = 3
texel_size format.Alpha = 1

-- the bytes of a row
abbrev pub row_length : Image → ℕ
row_length image = image.width * texel_size image.format

-- the bytes of all rows of an image, whose sizes are in pixels
abbrev pub image_bytes : Format → ℕ → ℕ → ℕ
image_bytes format w h = h * (w * texel_size format)

-- the colour of two bytes, the high one first
abbrev pub color_at : List ℕ → ℕ → Rgb565
color_at bytes at = record { 0 = slice_index bytes at * 256 + slice_index bytes (at + 1) }

-- what the bytes of a pixel say
abbrev pub texel_in : Format → List ℕ → ℕ → Texel
texel_in format.Rgb565 bytes at = record { color = Some (color_at bytes at); alpha = 255 }
texel_in format.Rgb565Alpha bytes at =
    record { color = Some (color_at bytes at); alpha = slice_index bytes (at + 2) }
texel_in format.Alpha bytes at = record { color = None; alpha = slice_index bytes at }

-- the texel of a pixel, counted from the top left
unfoldable pub texel_at : Image → ℕ → ℕ → Texel
texel_at image x y =
    texel_in image.format image.bytes (y * row_length image + x * texel_size image.format)

-- the image of a number, if there is one
abbrev pub image_of : List Image → ℕ → Option Image
image_of [] name = None
image_of (image ∷ images) name = if image.name == name then Some image else image_of images name

-- whether there is an image of this number, finished or not
abbrev pub has_image : List Image → ℕ → Bool
has_image images name = is_some (image_of images name)

-- an image is finished when its last row has been given
abbrev pub is_done : Image → Bool
is_done image = length image.bytes == image_bytes image.format image.width image.height

-- whether an image is finished, if there is one
abbrev pub finished : List Image → ℕ → Option Bool
finished images name = option_map is_done (image_of images name)

-- the width and the height of an image that is finished, in pixels
abbrev pub size_if_done : Image → Option (ℕ × ℕ)
size_if_done image = if is_done image then Some (image.width, image.height) else None

-- the same of an image, if there is one
abbrev pub size_or : Option Image → Option (ℕ × ℕ)
size_or None = None
size_or (Some image) = size_if_done image

-- the width and the height of an image, if there is one that is finished
abbrev pub size_in : List Image → ℕ → Option (ℕ × ℕ)
size_in images name = size_or (image_of images name)

-- the texel of a pixel of an image; where there is none, it covers nothing
abbrev pub texel_or : Option Image → ℕ → ℕ → Texel
texel_or None x y = record { color = None; alpha = 0 }
texel_or (Some image) x y = texel_at image x y

-- the texel of a pixel of an image; an image that is not there covers nothing
abbrev pub texel_of : List Image → ℕ → ℕ → ℕ → Texel
texel_of images name x y = texel_or (image_of images name) x y

-- whether row y is the next one, and of this many bytes
abbrev pub takes_row : Image → ℕ → ℕ → Bool
takes_row image y len =
    nat_lt y image.height && (y * row_length image == length image.bytes) && (len == row_length image)

-- whether there is an image whose next row is row y, of this many bytes
abbrev pub takes_if : Option Image → ℕ → ℕ → Bool
takes_if None y len = false
takes_if (Some image) y len = takes_row image y len

-- the tests of a new image
abbrev pub begin_tests : List Image → ℕ → List Test
begin_tests images name = (has_image images name, Taken) ∷ []

-- the tests of a row of an image, in order
abbrev pub row_tests : List Image → ℕ → ℕ → List ℕ → List Test
row_tests images name y bytes =
    (not (has_image images name), Unknown)
    ∷ (not (takes_if (image_of images name) y (length bytes)), Place)
    ∷ []

-- one image more, the last, without rows
abbrev pub with_image : List Image → ℕ → Format → ℕ → ℕ → List Image
with_image images name format w h =
    images ++ record { name = name; format = format; width = w; height = h; bytes = [] } ∷ []

-- one row more in the image of a number
abbrev pub with_row : List Image → ℕ → List ℕ → List Image
with_row [] name bytes = []
with_row (image ∷ images) name bytes =
    if image.name == name then record image { bytes = image.bytes ++ bytes } ∷ images
    else image ∷ with_row images name bytes
