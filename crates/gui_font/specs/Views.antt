-- How fonts are kept. No public clause cites this module.
use Rattle.std.specs.Prelude.{◌≡◌, ◌<◌, ◌≤◌, Bool, true, ℕ, ◌+◌, ◌*◌, ◌^◌, ◌==◌, ◌&&◌, List, map, length}
use Rattle.std.specs.Prelude.{if◌then◌else◌, position, slice_index_or, slice_range}
use Rattle.std.specs.List.{filter, list_any}
use Rattle.gui_pool.specs.Table.{Table, value_at}
use Rattle.text_defs.specs.Fonts.{Font, Glyph, glyph_bytes}
use Rattle.gui_font.specs.declared.fonts.FontSlot.{FontSlot}
use Rattle.gui_font.specs.declared.fonts.GlyphSlot.{GlyphSlot}
use Rattle.gui_font.specs.declared.fonts.TheConstants.{FONT_STEP, KEYS}

abbrev pub glyph_in : List ℕ → GlyphSlot → Glyph
glyph_in ink g =
    record { code = g.code; shape = g.shape; rows = slice_range ink g.ink (g.ink + glyph_bytes g.shape) }

abbrev pub glyphs_in : List GlyphSlot → List ℕ → ℕ → List Glyph
glyphs_in glyphs ink name = map (glyph_in ink) (filter (λ g. g.font == name) glyphs)

abbrev pub font_in : List GlyphSlot → List ℕ → FontSlot → Font
font_in glyphs ink f = record {
  name = f.name;
  height = f.height;
  advance = f.advance;
  finished = f.finished;
  glyphs = glyphs_in glyphs ink f.name;
}

abbrev pub has_slot : List FontSlot → ℕ → Bool
has_slot fonts name = list_any (λ f. f.name == name) fonts

-- the slot, finished where it is that of the font
abbrev pub marked : ℕ → FontSlot → FontSlot
marked name f = if f.name == name then record f { finished = true } else f

-- the key of a character of a font
abbrev pub key_of : ℕ → ℕ → ℕ
key_of font code = font * FONT_STEP + code

abbrev pub is_glyph : ℕ → ℕ → GlyphSlot → Bool
is_glyph font code g = g.font == font && g.code == code

-- the place of the glyph of each character of each font
pub record IsIndex (index : Table ℕ) (glyphs : List GlyphSlot) : Type 0 where
  pub keys : length index.values ≡ KEYS
  pub places :
      (font code : ℕ) → font < 256 → code < 1114112 →
      value_at index (key_of font code) ≡ position (is_glyph font code) glyphs

-- the bits of each glyph are there, and so is its font; there is room for each glyph that may come
pub record AreKept
    (fonts : List FontSlot) (index : Table ℕ) (glyphs : List GlyphSlot) (ink : List ℕ) (room : ℕ) : Type 0
  where
    pub bits :
        (k : ℕ) (d : GlyphSlot) → k < length glyphs →
        (slice_index_or glyphs k d).ink + glyph_bytes (slice_index_or glyphs k d).shape ≤ length ink
    pub owned :
        (k : ℕ) (d : GlyphSlot) → k < length glyphs → has_slot fonts (slice_index_or glyphs k d).font ≡ true
    pub indexed : IsIndex index glyphs
    pub fits : length glyphs + index.spare ≤ room
    pub few : length glyphs + index.spare < 2 ^ 32

-- one of these
pub record IsMember {T : Type 0} (x : T) (xs : List T) : Type 0 where
  pub at : ℕ
  pub below : at < length xs
  pub is : slice_index_or xs at x ≡ x
