-- The changes of the fonts and the images of a scene.
use Rattle.std.specs.Prelude.{Bool, ◌&&◌, ℕ, List, length}
use Rattle.gui_base.specs.Intervals.{is_counted, is_within}
use Rattle.gui_base.specs.Refusing.{Test}
use Rattle.gui_base.specs.declared.intervals.TheConstants.{ADVANCE, GLYPH_WIDTH, GLYPH_HEIGHT, GLYPH_OFFSET}
use Rattle.gui_base.specs.declared.limits.Pool.{Pool}
use Rattle.gui_base.specs.declared.words.Format.{Format}
use Rattle.gui_base.specs.declared.limits.Pool.TheVariants.{Fonts, Glyphs, Ink, Images, Pixels}
use Rattle.text_defs.specs.Building.{begin_tests, glyph_tests, finish_tests}
use Rattle.text_defs.specs.Building.{with_font, with_glyph, with_finished}
use Rattle.text_defs.specs.Fonts.{Font, Glyph}
use Rattle.text_defs.specs.Images as images
use Rattle.text_defs.specs.Images.{Image, image_bytes, row_tests, with_image, with_row}
use Rattle.text_defs.specs.declared.GlyphBox.{GlyphBox}

-- A change of the fonts or the images of a scene, and of nothing else. It frees no slots.
pub record AssetChange : Type 0 where
  -- what refuses it, whatever room there is
  pub tests : List Test
  -- how many slots of each pool it takes
  pub need : Pool → ℕ
  -- the fonts and the images after it
  pub fonts : List Font
  pub images : List Image

-- no slots of any pool
abbrev pub no_room : Pool → ℕ
no_room pool = 0

-- one slot of the pool of fonts
abbrev pub of_fonts : Pool → ℕ
of_fonts Fonts = 1
of_fonts pool = 0

-- one slot of the pool of glyphs, and so many bytes of ink
abbrev pub of_glyphs : ℕ → Pool → ℕ
of_glyphs ink Glyphs = 1
of_glyphs ink Ink = ink
of_glyphs ink pool = 0

-- one slot of the pool of images, and so many bytes of pixels
abbrev pub of_images : ℕ → Pool → ℕ
of_images pixels Images = 1
of_images pixels Pixels = pixels
of_images pixels pool = 0

-- the glyph of a code, with its box and the bytes of its rows
abbrev pub glyph_in : ℕ → GlyphBox → List ℕ → Glyph
glyph_in code shape rows = record { code = code; shape = shape; rows = rows }

-- a new font, without glyphs
abbrev pub font_begun : ℕ → ℕ → ℕ → List Font → List Image → AssetChange
font_begun f height advance fs is = record {
  tests = begin_tests fs f;
  need = of_fonts;
  fonts = with_font fs f height advance;
  images = is;
}

-- a glyph more of a font
abbrev pub glyph_given : ℕ → ℕ → GlyphBox → List ℕ → List Font → List Image → AssetChange
glyph_given f code shape rows fs is = record {
  tests = glyph_tests fs f (glyph_in code shape rows);
  need = of_glyphs (length rows);
  fonts = with_glyph fs f (glyph_in code shape rows);
  images = is;
}

-- a font that takes no more glyphs
abbrev pub font_finished : ℕ → List Font → List Image → AssetChange
font_finished f fs is = record {
  tests = finish_tests fs f;
  need = no_room;
  fonts = with_finished fs f;
  images = is;
}

-- a new image, without rows
abbrev pub image_begun : ℕ → Format → ℕ → ℕ → List Font → List Image → AssetChange
image_begun i format w h fs is = record {
  tests = images.begin_tests is i;
  need = of_images (image_bytes format w h);
  fonts = fs;
  images = with_image is i format w h;
}

-- a row more of an image
abbrev pub row_given : ℕ → ℕ → List ℕ → List Font → List Image → AssetChange
row_given i y row fs is = record {
  tests = row_tests is i y row;
  need = no_room;
  fonts = fs;
  images = with_row is i row;
}

-- whether each number of a glyph's box lies in its interval
abbrev pub is_shape : GlyphBox → Bool
is_shape shape =
    is_counted ADVANCE shape.advance && (is_counted GLYPH_WIDTH shape.w && (is_counted GLYPH_HEIGHT shape.h &&
    (is_within GLYPH_OFFSET shape.ox && is_within GLYPH_OFFSET shape.oy)))
