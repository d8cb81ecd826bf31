-- A font that is read has glyphs that a script may have.
use Rattle.std.proofs.Common.{◌≡◌, ◌∙◌, refl, ap, ℕ, zero, suc, ◌+◌, ◌*◌, ◌%◌, ◌≤◌, true, false, not, ◌&&◌, ◌==◌, Bool, List, [], ◌∷◌, ◌++◌, length, length-append, length-take, map, take, arith}
use Rattle.std.specs.Prelude.{ℤ, pos, negsuc, ◌≤ℤ◌, nat_le, Some, None, IfSome, IsSomeAnd, IfOk, is_some, unwrap_or, if◌then◌else◌, option_map, unsigned_abs, ⊤}
use Rattle.std.specs.declared.option.Option.{Option}
use Rattle.std.specs.declared.result.Result.{Result}
use Rattle.std.specs.List.{list_all}
use Rattle.std.specs.Option.{option_and_then}
use Rattle.std.proofs.lemmas.Int.{ints}
use Rattle.std.proofs.lemmas.Bool.Decides.{nat_tests}
use Rattle.std.proofs.lemmas.List.{length-map}
use Rattle.std.proofs.lemmas.List.Folds.{list_all-append}
use Rattle.std.proofs.lemmas.Nat.{mul-le}
use Rattle.hex.specs.Hex.{is_hex_digit}
use Rattle.gui_base.specs.Intervals.{is_within}
use Rattle.gui_base.specs.declared.intervals.TheConstants.{CODE}
use Rattle.run_defs.specs.Numbers.{is_surrogate}
use Rattle.run_defs.specs.Language.{Word}
use Rattle.bdf_font.specs.declared.characters.Extents.{Extents}
use Rattle.bdf_font.specs.declared.keywords.Keyword.{Keyword}
use Rattle.bdf_font.specs.declared.characters.Character.{Character}
use Rattle.bdf_font.specs.declared.keywords.Phase.{Phase}
use Rattle.bdf_font.specs.declared.keywords.Phase.TheVariants.{Start, Head, Properties, Char, Rows, Between, Ended}
use Rattle.bdf_font.specs.Bdf.{Font, Glyph, nothing_read, that, extents_of, is_font_box, is_char_box, row_digits, height_in, width_in, begun, in_phase, with_bounds}
use Rattle.bdf_font.specs.Bdf.{head_line, char_line, upper, is_row, row_line, fits, shape_of, glyph_of, without, with_glyph, end_line, between_line, start_line, properties_line}
use Rattle.bdf_font.specs.Bdf.{line_in, keyword_line, words_line, after_line, whole_font, goes_on, font_from, bdf, keyword_of, has_code}
use Rattle.bdf_font.specs.Lines.{file_lines, trimmed, file_words, first_integer, most_number, most_code}
use Rattle.bdf_font.specs.Asked.{is_kept}
use Rattle.bdf_font.proofs.Fitting.{Fits, fits_is}

-- from the first character on the font has a box
abbrev pub HasBounds : Phase → Option Extents → Type 0
HasBounds Start bounds = ⊤
HasBounds Head bounds = ⊤
HasBounds Properties bounds = ⊤
HasBounds Char bounds = is_some bounds ≡ true
HasBounds (Rows n) bounds = is_some bounds ≡ true
HasBounds Between bounds = is_some bounds ≡ true
HasBounds Ended bounds = is_some bounds ≡ true

-- once its rows begin, a character has its code and its box
abbrev pub HasCharacter : Phase → Option ℤ → Option Extents → Type 0
HasCharacter Start code shape = ⊤
HasCharacter Head code shape = ⊤
HasCharacter Properties code shape = ⊤
HasCharacter Char code shape = ⊤
HasCharacter (Rows n) code shape = (is_some code && is_some shape) ≡ true
HasCharacter Between code shape = ⊤
HasCharacter Ended code shape = ⊤

-- the digits are those of the rows that were read
pub record HasRows (n : ℕ) (shape : Option Extents) (digits : List ℕ) : Type 0 where
  pub hex : list_all is_hex_digit digits ≡ true
  pub even : length digits % 2 ≡ 0
  pub many : length digits + n * row_digits (width_in shape) ≡ height_in shape * row_digits (width_in shape)

abbrev pub RowsFit : Phase → Option Extents → List ℕ → Type 0
RowsFit Start shape digits = ⊤
RowsFit Head shape digits = ⊤
RowsFit Properties shape digits = ⊤
RowsFit Char shape digits = digits ≡ []
RowsFit (Rows n) shape digits = HasRows n shape digits
RowsFit Between shape digits = ⊤
RowsFit Ended shape digits = ⊤

pub record Sound (font : Font) : Type 0 where
  pub kept : list_all is_kept font.glyphs ≡ true
  pub bounds : IfSome font.bounds (λ e. is_font_box e ≡ true)
  pub shape : IfSome font.shape (λ e. is_char_box e ≡ true)
  pub has_bounds : HasBounds font.phase font.bounds
  pub has_character : HasCharacter font.phase font.code font.shape
  pub rows : RowsFit font.phase font.shape font.digits

that-holds : {A : Type 0} (test : A → Bool) (o : Option A) → IfSome (that test o) (λ a. test a ≡ true)
that-holds test None = tt
that-holds test (Some a) = grind arith

-- The head.

pub sound-nothing : Sound nothing_read
sound-nothing = record { kept = refl; bounds = tt; shape = tt; has_bounds = tt; has_character = tt; rows = tt }

sound-begun : (font : Font) → Sound font → is_some font.bounds ≡ true → Sound (begun font)
sound-begun font h some = record { kept = h.kept; bounds = h.bounds; shape = tt; has_bounds = some; has_character = tt; rows = refl }

sound-ended : (font : Font) → Sound font → is_some font.bounds ≡ true → Sound (in_phase Ended font)
sound-ended font h some = record { kept = h.kept; bounds = h.bounds; shape = h.shape; has_bounds = some; has_character = tt; rows = tt }

sound-head_phase : (font : Font) → Sound font → Sound (in_phase Head font)
sound-head_phase font h = record { kept = h.kept; bounds = h.bounds; shape = h.shape; has_bounds = tt; has_character = tt; rows = tt }

sound-properties_phase : (font : Font) → Sound font → Sound (in_phase Properties font)
sound-properties_phase font h = record { kept = h.kept; bounds = h.bounds; shape = h.shape; has_bounds = tt; has_character = tt; rows = tt }

sound-if : (font next : Font) (some : Bool) → is_some font.bounds ≡ some → (is_some font.bounds ≡ true → Sound next) → IfSome (with_bounds font next) Sound
sound-if font next true e f = rw e (f e)
sound-if font next false e f = rw e tt

sound-start : (font : Font) (keyword : Option Keyword) → Sound font → IfSome (start_line font keyword) Sound
sound-start font keyword h = grind (arith, sound-head_phase font h)

sound-properties : (font : Font) (keyword : Option Keyword) → Sound font → IfSome (properties_line font keyword) Sound
sound-properties font keyword h = grind (arith, h, sound-head_phase font h)

-- a box of the font, where the phase asks for none
sound-box : (font : Font) (e : Option Extents) → font.phase ≡ Head → Sound font → IfSome e (λ e. is_font_box e ≡ true) →
    IfSome (option_map (λ e. record font { bounds = Some e }) e) Sound
sound-box font None is h k = tt
sound-box font (Some e) is h k = record { kept = h.kept; bounds = k; shape = h.shape; has_bounds = rw is tt; has_character = rw is tt; rows = h.rows }

sound-head : (font : Font) (keyword : Option Keyword) (words : List Word) → font.phase ≡ Head → Sound font → IfSome (head_line font keyword words) Sound
sound-head font keyword words is h =
    grind (
      arith,
      h,
      sound-box font (that is_font_box (extents_of words)) is h (that-holds is_font_box (extents_of words)),
      sound-properties_phase font h,
      sound-if font (begun font) (is_some font.bounds) refl (sound-begun font h),
      sound-if font (in_phase Ended font) (is_some font.bounds) refl (sound-ended font h),
    )

-- A character.

sound-code : (font : Font) (n : Option ℤ) → font.phase ≡ Char → Sound font → IfSome (option_map (λ n. record font { code = Some n }) n) Sound
sound-code font None is h = tt
sound-code font (Some n) is h = record { kept = h.kept; bounds = h.bounds; shape = h.shape; has_bounds = h.has_bounds; has_character = rw is tt; rows = h.rows }

sound-advance : (font : Font) (n : Option ℤ) → Sound font → IfSome (option_map (λ n. record font { advance = Some n }) n) Sound
sound-advance font None h = tt
sound-advance font (Some n) h = record { kept = h.kept; bounds = h.bounds; shape = h.shape; has_bounds = h.has_bounds; has_character = h.has_character; rows = h.rows }

sound-char_box : (font : Font) (e : Option Extents) → font.phase ≡ Char → Sound font → IfSome e (λ e. is_char_box e ≡ true) →
    IfSome (option_map (λ e. record font { shape = Some e }) e) Sound
sound-char_box font None is h k = tt
sound-char_box font (Some e) is h k =
    record { kept = h.kept; bounds = h.bounds; shape = k; has_bounds = h.has_bounds; has_character = rw is tt; rows = rw is (rw is at h.rows) }

sound-bitmap : (font : Font) (test : Bool) → (is_some font.code && is_some font.shape) ≡ test → font.phase ≡ Char → Sound font → IfSome (if test then Some (in_phase (Rows (height_in font.shape)) font) else None) Sound
sound-bitmap font false e is h = tt
sound-bitmap font true e is h =
    let none : font.digits ≡ [] = rw is at h.rows in
    record {
      kept = h.kept;
      bounds = h.bounds;
      shape = h.shape;
      has_bounds = rw is at h.has_bounds;
      has_character = e;
      rows = record { hex = rw none refl; even = rw none refl; many = rw none (omega arith) };
    }

sound-char : (font : Font) (keyword : Option Keyword) (words : List Word) → font.phase ≡ Char → Sound font → IfSome (char_line font keyword words) Sound
sound-char font keyword words is h =
    grind (
      arith,
      h,
      sound-code font (first_integer most_code words) is h,
      sound-advance font (first_integer most_number words) h,
      sound-char_box font (that is_char_box (extents_of words)) is h (that-holds is_char_box (extents_of words)),
      sound-bitmap font (is_some font.code && is_some font.shape) refl is h,
    )

-- Rows.

upper-hex : (c : ℕ) → is_hex_digit c ≡ true → is_hex_digit (upper c) ≡ true
upper-hex c h = grind (arith, nat_tests, h)

uppers-hex : (n : ℕ) (line : List ℕ) → list_all is_hex_digit line ≡ true → list_all is_hex_digit (map upper (take n line)) ≡ true
uppers-hex zero line h = refl
uppers-hex (suc n) [] h = refl
uppers-hex (suc n) (c ∷ cs) h = grind (arith, nat_tests, h, upper-hex c, uppers-hex n cs)

row-size : (n : ℕ) (line : List ℕ) → n ≤ length line → length (map upper (take n line)) ≡ n
row-size n line h = length-map (take n line) upper ∙ omega (arith, length-take n line)

sound-row : (font : Font) (n : ℕ) (line : List ℕ) → font.phase ≡ Rows (suc n) → Sound font → IfSome (row_line font n line) Sound
sound-row font n line is h = by (is_row (width_in font.shape) line) refl where
  by : (test : Bool) → is_row (width_in font.shape) line ≡ test → IfSome (row_line font n line) Sound
  by false e = rw e tt
  by true e =
      let rows : HasRows (suc n) font.shape font.digits = rw is at h.rows in
      let even = rows.even in
      let many = rows.many in
      let count = row_digits (width_in font.shape) in
      let hex : list_all is_hex_digit line ≡ true = grind (arith, nat_tests, e) in
      let long : count ≤ length line = grind (arith, nat_tests, e) in
      let row = map upper (take count line) in
      let size = row-size count line long in
      rw e (record {
        kept = h.kept;
        bounds = h.bounds;
        shape = h.shape;
        has_bounds = rw is at h.has_bounds;
        has_character = rw is at h.has_character;
        rows = record {
          hex = list_all-append is_hex_digit font.digits row ∙ rw (rows.hex, uppers-hex count line hex) refl;
          even = omega (arith, even, size, length-append font.digits row);
          many = omega (arith, many, size, length-append font.digits row);
        };
      })

-- Glyphs.

abs_is : (n : ℤ) → pos 0 ≤ℤ n → pos (unsigned_abs n) ≡ n
abs_is (pos n) h = refl
abs_is (negsuc n) h = grind (arith, ints, h)

abs_most : (n : ℤ) (k : ℕ) → pos 0 ≤ℤ n → n ≤ℤ pos k → unsigned_abs n ≤ k
abs_most (pos n) k h e = grind (arith, ints, nat_tests, e)
abs_most (negsuc n) k h e = grind (arith, ints, h)

few_digits : (h w n : ℕ) → h ≤ 64 → w ≤ 32 → n + 0 * row_digits w ≡ h * row_digits w → n ≤ 512
few_digits h w n p q e = omega (arith, e, mul-le h (row_digits w) 64 8 p (omega (arith, q)))

all_push : (glyphs : List Glyph) (glyph : Glyph) → list_all is_kept glyphs ≡ true → is_kept glyph ≡ true → list_all is_kept (glyphs ++ glyph ∷ []) ≡ true
all_push glyphs glyph h k = list_all-append is_kept glyphs (glyph ∷ []) ∙ rw (h, k) refl

all_ten : (a b c d e f g h i j : Bool) → a ≡ true → b ≡ true → c ≡ true → d ≡ true → e ≡ true → f ≡ true → g ≡ true → h ≡ true → i ≡ true → j ≡ true →
    (a && (b && (c && (d && (e && (f && (g && (h && (i && j))))))))) ≡ true
all_ten a b c d e f g h i j a1 b1 c1 d1 e1 f1 g1 h1 i1 j1 = rw (a1, b1, c1, d1, e1, f1, g1, h1, i1, j1) refl

counted : (n : ℤ) (k : ℕ) → pos 0 ≤ℤ n → n ≤ℤ pos k → (nat_le 0 (unsigned_abs n) && nat_le (unsigned_abs n) k) ≡ true
counted n k h e = let few = abs_most n k h e in grind (arith, nat_tests, few)

code_low : (n : ℤ) → is_within CODE n ≡ true → pos 0 ≤ℤ n
code_low (pos n) h = grind (arith, ints)
code_low (negsuc n) h = grind (arith, ints, nat_tests, h)

kept-of : (l : Character) (digits : List ℕ) → Fits l → HasRows 0 (Some l.shape) digits → is_kept (record { code = unsigned_abs l.code; shape = shape_of l; digits = digits }) ≡ true
kept-of l digits f rows =
    let code_is = f.code in
    let within : is_within CODE l.code ≡ true = grind (arith, code_is) in
    let scalar : is_surrogate (unsigned_abs l.code) ≡ false = grind (arith, code_is) in
    let same : is_within CODE (pos (unsigned_abs l.code)) ≡ true = ap (is_within CODE) (abs_is l.code (code_low l.code within)) ∙ within in
    let few : length digits ≤ 512 = few_digits (unsigned_abs l.shape.h) (unsigned_abs l.shape.w) (length digits) (abs_most l.shape.h 64 f.h_low f.h_high) (abs_most l.shape.w 32 f.w_low f.w_high) rows.many in
    let small : nat_le (length digits) 512 ≡ true = grind (arith, nat_tests, few) in
    let even : (length digits % 2 == 0) ≡ true = rw rows.even refl in
    all_ten _ _ _ _ _ _ _ _ _ _ same (ap not scalar) (counted l.advance 64 f.advance_low f.advance_high) (counted l.shape.w 32 f.w_low f.w_high) (counted l.shape.h 64 f.h_low f.h_high)
    f.ox f.oy rows.hex even small

sound-without : (font : Font) → Sound font → HasBounds Between font.bounds → Sound (without font)
sound-without font h some = record { kept = h.kept; bounds = h.bounds; shape = h.shape; has_bounds = some; has_character = tt; rows = tt }

sound-character : (font : Font) (l : Character) → HasRows 0 (Some l.shape) font.digits → HasBounds Between font.bounds → Sound font → Sound (with_glyph font (glyph_of l))
sound-character font l rows some h = by (fits l) refl where
  there : (test : Bool) → has_code font.glyphs (unsigned_abs l.code) ≡ test → fits l ≡ true → Sound (with_glyph font (Some (unsigned_abs l.code, shape_of l)))
  there true same f = rw same (sound-without font h some)
  there false same f = rw same (record {
    kept = all_push font.glyphs _ h.kept (kept-of l font.digits (fits_is l f) rows);
    bounds = h.bounds;
    shape = h.shape;
    has_bounds = some;
    has_character = tt;
    rows = tt;
  })

  by : (test : Bool) → fits l ≡ test → Sound (with_glyph font (glyph_of l))
  by false f = rw f (sound-without font h some)
  by true f = rw f (there (has_code font.glyphs (unsigned_abs l.code)) refl f)

sound-characters : (font : Font) (bounds : Option Extents) (code : Option ℤ) (shape : Option Extents) → HasRows 0 shape font.digits → HasBounds Between font.bounds → Sound font →
    IfSome (option_map (λ l. with_glyph font (glyph_of l)) (option_and_then
    (λ bounds. option_and_then
    (λ code. option_map
    (λ shape. record { bounds = bounds; code = code; advance = unwrap_or font.advance bounds.w; shape = shape })
    shape) code) bounds)) Sound
sound-characters font None code shape rows some h = tt
sound-characters font (Some bounds) None shape rows some h = tt
sound-characters font (Some bounds) (Some code) None rows some h = tt
sound-characters font (Some bounds) (Some code) (Some shape) rows some h =
    sound-character font (record { bounds = bounds; code = code; advance = unwrap_or font.advance bounds.w; shape = shape }) rows some h

sound-end : (font : Font) (keyword : Option Keyword) → font.phase ≡ Rows 0 → Sound font → IfSome (end_line font keyword) Sound
sound-end font keyword is h = grind (arith, sound-characters font font.bounds font.code font.shape (rw is at h.rows) (rw is at h.has_bounds) h)

sound-between : (font : Font) (keyword : Option Keyword) → font.phase ≡ Between → Sound font → IfSome (between_line font keyword) Sound
sound-between font keyword is h = grind (arith, h, sound-begun font h (rw is at h.has_bounds), sound-ended font h (rw is at h.has_bounds))

-- Any line, and all lines.

sound-in : (phase : Phase) (font : Font) (keyword : Option Keyword) (words : List Word) (line : List ℕ) → font.phase ≡ phase → Sound font → IfSome (line_in phase font keyword words line) Sound
sound-in Start font keyword words line is h = sound-start font keyword h
sound-in Head font keyword words line is h = sound-head font keyword words is h
sound-in Properties font keyword words line is h = sound-properties font keyword h
sound-in Char font keyword words line is h = sound-char font keyword words is h
sound-in (Rows zero) font keyword words line is h = sound-end font keyword is h
sound-in (Rows (suc n)) font keyword words line is h = sound-row font n line is h
sound-in Between font keyword words line is h = sound-between font keyword is h
sound-in Ended font keyword words line is h = h

sound-keyword : (font : Font) (keyword : Option Keyword) (words : List Word) (line : List ℕ) → Sound font → IfSome (keyword_line font keyword words line) Sound
sound-keyword font keyword words line h = grind (arith, h, sound-in font.phase font keyword words line refl h)

sound-words : (font : Font) (words : List Word) (line : List ℕ) → Sound font → IfSome (words_line font words line) Sound
sound-words font [] line h = h
sound-words font (name ∷ words) line h = sound-keyword font (keyword_of name) words line h

pub sound-line : (font : Font) (line : List ℕ) → Sound font → IfSome (after_line font line) Sound
unfolding after_line
sound-line font line h = sound-words font (file_words (trimmed line)) (trimmed line) h

-- a font that came to its end
pub record SoundFont (font : Font) : Type 0 where
  pub glyphs : list_all is_kept font.glyphs ≡ true
  pub bounds : IsSomeAnd font.bounds (λ e. is_font_box e ≡ true)

some_and : (bounds : Option Extents) → IfSome bounds (λ e. is_font_box e ≡ true) → is_some bounds ≡ true → IsSomeAnd bounds (λ e. is_font_box e ≡ true)
some_and None h k = cc
some_and (Some e) h k = h

sound-ended_font : (font : Font) → font.phase ≡ Ended → Sound font → SoundFont font
sound-ended_font font is h = record { glyphs = h.kept; bounds = some_and font.bounds h.bounds (rw is at h.has_bounds) }

sound-whole : (font : Font) (number : ℕ) (phase : Phase) → font.phase ≡ phase → Sound font → IfOk (whole_font font number phase) SoundFont
sound-whole font number phase is h = grind (arith, is, h, sound-ended_font font)

sound-on : (next : Option Font) (number : ℕ) (rest : Font → Result Font ℕ) → IfSome next Sound → ((font : Font) → Sound font → IfOk (rest font) SoundFont) → IfOk (goes_on rest number next) SoundFont
sound-on None number rest h f = tt
sound-on (Some font) number rest h f = f font h

sound-from : (font : Font) (number : ℕ) (lines : List (List ℕ)) → Sound font → IfOk (font_from font number lines) SoundFont
sound-from font number [] h = sound-whole font number font.phase refl h
sound-from font number (line ∷ lines) h =
    sound-on (after_line font line) number (λ next. font_from next (number + 1) lines) (sound-line font line h) (λ next k. sound-from next (number + 1) lines k)

pub sound_font : (bytes : List ℕ) → IfOk (bdf bytes) SoundFont
unfolding bdf
sound_font bytes = sound-from nothing_read 1 (file_lines bytes) sound-nothing
