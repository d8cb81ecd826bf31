-- Building fonts glyph by glyph: what refuses an edit whatever room there is, and the fonts after it.
use Rattle.std.specs.Prelude.{ℕ, Bool, true, false, not, ◌==◌, if◌then◌else◌, List, [], ◌∷◌, ◌++◌}
use Rattle.std.specs.Prelude.{map, length, unwrap_or}
use Rattle.gui_base.specs.Refusing.{Test, Unknown, Taken, Place}
use Rattle.text_defs.specs.Fonts.{Font, Glyph, has_font, has_glyph, finished, glyph_bytes}

-- whether there is a font of this number that is finished
abbrev pub is_finished : List Font → ℕ → Bool
is_finished fonts name = unwrap_or (finished fonts name) false

-- whether a glyph has as many bytes of bits as its box asks for
abbrev pub is_whole : Glyph → Bool
is_whole g = length g.rows == glyph_bytes g.shape

-- the tests of a new font
abbrev pub begin_tests : List Font → ℕ → List Test
begin_tests fonts name = (has_font fonts name, Taken) ∷ []

-- the tests of a glyph for a font, in order
abbrev pub glyph_tests : List Font → ℕ → Glyph → List Test
glyph_tests fonts name g =
    (not (has_font fonts name), Unknown)
    ∷ (has_glyph fonts name g.code, Taken)
    ∷ (is_finished fonts name, Place)
    ∷ (not (is_whole g), Place)
    ∷ []

-- the tests of the end of a font, in order
abbrev pub finish_tests : List Font → ℕ → List Test
finish_tests fonts name = (not (has_font fonts name), Unknown) ∷ (is_finished fonts name, Place) ∷ []

-- a font without glyphs
abbrev pub new_font : ℕ → ℕ → ℕ → Font
new_font name height advance =
    record { name = name; height = height; advance = advance; finished = false; glyphs = [] }

-- one font more, the last
abbrev pub with_font : List Font → ℕ → ℕ → ℕ → List Font
with_font fonts name height advance = fonts ++ new_font name height advance ∷ []

-- a font, with a glyph more if it is the one of this number
abbrev pub given : ℕ → Glyph → Font → Font
given name g font = if name == font.name then record font { glyphs = font.glyphs ++ g ∷ [] } else font

-- one glyph more in a font, its last
abbrev pub with_glyph : List Font → ℕ → Glyph → List Font
with_glyph fonts name g = map (given name g) fonts

-- a font, finished if it is the one of this number
abbrev pub done : ℕ → Font → Font
done name font = if font.name == name then record font { finished = true } else font

-- a font is finished
abbrev pub with_finished : List Font → ℕ → List Font
with_finished fonts name = map (done name) fonts
