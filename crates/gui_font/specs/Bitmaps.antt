-- The texels of an image by the bytes of its rows.
use Rattle.std.specs.Prelude.{ℕ, ◌+◌, ◌*◌}
use Rattle.text_defs.specs.Images.{texel_in, texel_size}
use Rattle.text_defs.specs.declared.Texel.{Texel}
use Rattle.gui_font.specs.declared.images.Bitmap.{Bitmap}

-- the texel in a column and a row
abbrev pub bitmap_texel : Bitmap → ℕ → ℕ → Texel
bitmap_texel b x y =
    texel_in b.format b.bytes.now (y * (b.width * texel_size b.format) + x * texel_size b.format)
