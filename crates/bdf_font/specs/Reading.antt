-- What a reader of fonts shows of what it read.
use Rattle.std.specs.Prelude.{ℕ, Bool, true, false, List, [], ◌∷◌, ◌++◌, Some, None, Ok, Err}
use Rattle.std.specs.Global.{Vec}
use Rattle.std.specs.declared.result.Result.{Result}
use Rattle.std.specs.declared.option.Option.{Option}
use Rattle.std.specs.List.{flat_map}
use Rattle.bdf_font.specs.Bdf.{Font, Glyph}
use Rattle.bdf_font.specs.Texts.{glyph_text}
use Rattle.bdf_font.specs.declared.glyphs.Kept.{Kept}

abbrev pub kept : Kept → Glyph
kept glyph = record { code = glyph.code; shape = glyph.shape; digits = glyph.digits.items }

-- a font that goes on, or none
abbrev pub going : Bool → Font → Option Font
going true font = Some font
going false font = None

-- the text that was made, or the number of a line
abbrev pub items_or : Result (Vec ℕ) ℕ → Result (List ℕ) ℕ
items_or (Ok text) = Ok text.items
items_or (Err line) = Err line

-- the lines of these glyphs
abbrev pub glyph_lines : ℕ → List Kept → List ℕ
glyph_lines number glyphs = flat_map (λ glyph. glyph_text number (kept glyph) ++ 10 ∷ []) glyphs
