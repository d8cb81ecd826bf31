-- Texts and images that were worked out by hand.
use Rattle.std.specs.Prelude.{◌≡◌, ℕ, Bool, true, false, List, [], ◌∷◌, map, codes}
use Rattle.std.specs.Prelude.{Some, None, ℤ, pos, negsuc}
use Rattle.std.specs.declared.option.Option.{Option}
use Rattle.gui_base.specs.declared.words.Format.TheVariants as format
use Rattle.gui_base.specs.declared.words.TextAlign.TheVariants.{Left, Center, Right}
use Rattle.text_defs.specs.declared.GlyphBox.{GlyphBox}
use Rattle.text_defs.specs.Building.{with_font, with_glyph, with_finished}
use Rattle.text_defs.specs.BuiltIn.{built_in}
use Rattle.text_defs.specs.Face.{Face}
use Rattle.text_defs.specs.Fonts.{Glyph, face}
use Rattle.text_defs.specs.Images.{Image, with_image, with_row, finished, size_in, texel_of}
use Rattle.text_defs.specs.Ink.{inked}
use Rattle.text_defs.specs.Lines.{LineSetting, TextLine, lines, run_width, byte_count, measured}

-- Texts are given as the codes of their characters.

-- a line: the bytes before it, its own, and the width of its run
abbrev pub LineSpan : Type 0
LineSpan = ℕ × ℕ × ℕ

abbrev pub span_of : LineSetting → TextLine → LineSpan
span_of s line = (line.start, byte_count line.chars, run_width s line.chars)

abbrev pub set_in : Face → ℕ → Option ℕ → LineSetting
set_in face letter most = record { face = face; letter = letter; most = most }

abbrev plain : Option ℕ → LineSetting
plain most = set_in built_in 0 most

-- the lines of a text in the built-in font, in so many pixels
abbrev spans_in : ℕ → List ℕ → List LineSpan
spans_in width text = map (span_of (plain (Some width))) (lines (plain (Some width)) text)

-- the same where lines end at newlines alone
abbrev spans_of : List ℕ → List LineSpan
spans_of text = map (span_of (plain None)) (lines (plain None) text)

abbrev spaced_size : List ℕ → ℕ × ℕ
spaced_size text = measured (set_in built_in 1 None) 2 text

-- a font without advances
abbrev flat : Face
flat = face (with_finished (with_font [] 1 8 0) 1) 1

pub record LinesAreWorked : Type 0 where
  pub after_a_space : spans_in 24 (codes "ab cd") ≡ (0, 3, 18) ∷ (3, 2, 12) ∷ []
  pub without_a_space : spans_in 24 (codes "abcdef") ≡ (0, 4, 24) ∷ (4, 2, 12) ∷ []
  -- a space that no longer fits ends no line: that before it does
  pub space_at_the_end : spans_in 30 (codes "ab cd ef") ≡ (0, 3, 18) ∷ (3, 5, 30) ∷ []
  -- spaces at a line's start stay, and count in its width
  pub spaces_alone : spans_in 12 (codes "   a") ≡ (0, 2, 12) ∷ (2, 2, 12) ∷ []
  pub exactly_fits : spans_in 30 (codes "ab cd") ≡ (0, 5, 30) ∷ []
  pub two_bytes : spans_of (233 ∷ []) ≡ (0, 2, 6) ∷ []
  pub empty : spans_of [] ≡ (0, 0, 0) ∷ []
  pub newline_at_the_end : spans_of (codes "a\n") ≡ (0, 1, 6) ∷ (2, 0, 0) ∷ []
  pub two_newlines : spans_of (codes "\n\nb") ≡ (0, 0, 0) ∷ (1, 0, 0) ∷ (2, 1, 6) ∷ []
  -- one character at least
  pub no_width : spans_in 0 (codes "ab\nc") ≡ (0, 1, 6) ∷ (1, 1, 6) ∷ (3, 1, 6) ∷ []
  pub wide_enough : spans_in 66 (codes "ab cd ef\ngh") ≡ spans_of (codes "ab cd ef\ngh")
  pub no_advances :
      map (span_of (set_in flat 0 (Some 0))) (lines (set_in flat 0 (Some 0)) (codes "ab c"))
      ≡ (0, 4, 0) ∷ []
  -- between two characters, and between two lines
  pub spaces_between : spaced_size (codes "ab\nc") ≡ (13, 18)
  pub one_empty_line : spaced_size [] ≡ (0, 8)

-- a font of 2 pixels, whose glyph of `A` begins left of its cell and ends right of it
abbrev two_high : Face
two_high =
    let shape : GlyphBox = record { advance = 2; w = 3; h = 1; ox = negsuc 0; oy = pos 0 } in
    let glyph : Glyph = record { code = 65; shape = shape; rows = 224 ∷ [] } in
    face (with_finished (with_glyph (with_font [] 1 2 2) 1 glyph) 1) 1

abbrev a_inked : ℤ → ℤ → Bool
a_inked x y = inked two_high 0 0 Left (65 ∷ []) 100 x y

-- whether a point of `|` is inked, which is one column of the built-in font, the third
abbrev bar_inked : ℕ → ℤ → ℤ → Bool
bar_inked width x y = inked built_in 0 0 Center (124 ∷ []) width x y

pub record InkIsWorked : Type 0 where
  pub first : a_inked (pos 0) (pos 0) ≡ true
  pub second : a_inked (pos 1) (pos 0) ≡ true
  -- outside the cell
  pub left_of_it : a_inked (negsuc 0) (pos 0) ≡ false
  pub right_of_it : a_inked (pos 2) (pos 0) ≡ false
  pub below : a_inked (pos 0) (pos 1) ≡ false
  pub bar : bar_inked 6 (pos 2) (pos 6) ≡ true
  pub no_bar : bar_inked 6 (pos 3) (pos 6) ≡ false
  pub bar_ends : bar_inked 6 (pos 2) (pos 7) ≡ false
  -- in the middle of a width, and of one that is too small
  pub centred : bar_inked 11 (pos 4) (pos 0) ≡ true
  pub too_wide : bar_inked 3 (pos 0) (pos 0) ≡ true
  pub second_line : inked built_in 0 2 Right (97 ∷ 10 ∷ 124 ∷ []) 8 (pos 4) (pos 10) ≡ true

abbrev two_pixels : List Image
two_pixels = with_image [] 1 format.Rgb565 2 1

abbrev both_given : List Image
both_given = with_row two_pixels 1 (248 ∷ 0 ∷ 7 ∷ 224 ∷ [])

pub record ImagesAreWorked : Type 0 where
  pub begun : finished two_pixels 1 ≡ Some false
  pub no_size : size_in two_pixels 1 ≡ None
  pub done : finished both_given 1 ≡ Some true
  pub size : size_in both_given 1 ≡ Some (2, 1)
  pub none : finished both_given 2 ≡ None
  pub red : texel_of both_given 1 0 0 ≡ record { color = Some (record { 0 = 63488 }); alpha = 255 }
  pub green : texel_of both_given 1 1 0 ≡ record { color = Some (record { 0 = 2016 }); alpha = 255 }
  pub opacity :
      texel_of (with_row (with_image [] 7 format.Alpha 1 1) 7 (128 ∷ [])) 7 0 0
      ≡ record { color = None; alpha = 128 }
  pub both :
      texel_of (with_row (with_image [] 7 format.Rgb565Alpha 1 1) 7 (0 ∷ 31 ∷ 9 ∷ [])) 7 0 0
      ≡ record { color = Some (record { 0 = 31 }); alpha = 9 }
