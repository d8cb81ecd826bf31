-- All lines of a font ask for it.
use Rattle.std.proofs.Common.{◌≡◌, ◌∙◌, refl, ap₂, ℕ, ◌^◌, ◌≤◌, ◌<◌, true, false, ◌&&◌, List, [], ◌∷◌, ◌++◌, length, length-append, map, arith}
use Rattle.std.specs.Prelude.{ℤ, pos, negsuc, int_le, nat_le, nat_lt, Ok, Err, Some, None, codes, decimal, unsigned_abs, IsSomeAnd, IfOk}
use Rattle.std.specs.Prelude.{if◌then◌else◌}
use Rattle.std.specs.declared.option.Option.{Option}
use Rattle.std.specs.declared.result.Result.{Result}
use Rattle.std.specs.List.{list_all}
use Rattle.std.proofs.lemmas.Int.{ints}
use Rattle.std.proofs.lemmas.List.{map-append}
use Rattle.std.proofs.lemmas.Bool.Decides.{nat_tests}
use Rattle.gui_base.specs.Intervals.{is_counted}
use Rattle.gui_base.specs.declared.intervals.TheConstants.{FONT, FONT_HEIGHT, ADVANCE}
use Rattle.run_defs.specs.declared.Line.TheVariants.{Blank}
use Rattle.run_defs.specs.Script.{Said, parse, max_line, line_says}
use Rattle.line_texts.specs.LineTexts.{spaced, line_text, are_words}
use Rattle.line_texts.specs.Commands.{asks}
use Rattle.line_texts.proofs.Commands.{font_lines_say}
use Rattle.line_texts.proofs.Numbers.{count_says}
use Rattle.line_texts.proofs.Plain.{prints_words, prints_short}
use Rattle.line_texts.proofs.Words.{words_say_so}
use Rattle.scene_defs.specs.declared.Change.TheVariants as change
use Rattle.bdf_font.specs.declared.characters.Extents.{Extents}
use Rattle.bdf_font.specs.Bdf.{Font, Glyph, is_font_box, bdf}
use Rattle.bdf_font.specs.Texts.{glyph_text, font_line, end_line, left_line, last_lines, font_lines, font_height, advance_in}
use Rattle.bdf_font.specs.Asked.{glyph_asked, font_asked, is_kept, LinesAsk}
use Rattle.bdf_font.proofs.Asked.{glyph_asks, more_spaced}
use Rattle.bdf_font.proofs.Left.{few_left_out}
use Rattle.bdf_font.proofs.Sound.{SoundFont, sound_font}

glyphs_ask : (number : ℕ) (glyphs : List Glyph) → is_counted FONT number ≡ true → list_all is_kept glyphs ≡ true →
    map (λ line. parse line) (map (glyph_text number) glyphs) ≡ map (glyph_asked number) glyphs
glyphs_ask number [] f h = refl
glyphs_ask number (glyph ∷ glyphs) f h =
    let here : is_kept glyph ≡ true = grind (arith, h) in
    let others : list_all is_kept glyphs ≡ true = grind (arith, h) in
    ap₂ (λ (said : Said) (rest : List Said). said ∷ rest) (glyph_asks number glyph f here) (glyphs_ask number glyphs f others)

height_is : (bounds : Option Extents) → IsSomeAnd bounds (λ e. is_font_box e ≡ true) → (nat_le 1 (font_height bounds) && nat_le (font_height bounds) 64) ≡ true
height_is None h = absurd h
height_is (Some e) h = by e.h h where
  by : (n : ℤ) → (int_le (pos 1) n && int_le n (pos 64)) ≡ true → (nat_le 1 (unsigned_abs n) && nat_le (unsigned_abs n) 64) ≡ true
  by (pos n) h = grind (arith, ints, nat_tests, h)
  by (negsuc n) h = grind (arith, ints, h)

advance_is : (bounds : Option Extents) → nat_le (advance_in bounds) 64 ≡ true
advance_is None = refl
advance_is (Some e) = by e.w where
  by : (n : ℤ) → nat_le (if int_le n (pos 0) then 0 else if int_le (pos 64) n then 64 else unsigned_abs n) 64 ≡ true
  by (pos n) = grind (arith, ints, nat_tests)
  by (negsuc n) = grind (arith, ints, nat_tests)

three_short : (a b c : List ℕ) → length a ≤ 10 → length b ≤ 10 → length c ≤ 10 → length (line_text (codes "font") (a ∷ b ∷ c ∷ [])) ≤ max_line
three_short a b c h k l = omega (arith, h, k, l, more_spaced a (b ∷ c ∷ []), more_spaced b (c ∷ []), more_spaced c [], length-append (codes "font") (spaced (a ∷ b ∷ c ∷ [])))

font_asks : (number height advance : ℕ) → is_counted FONT number ≡ true → (nat_le 1 height && nat_le height 64) ≡ true → nat_le advance 64 ≡ true →
    parse (line_text (codes "font") (decimal number ∷ decimal height ∷ decimal advance ∷ [])) ≡ asks (change.Font number height advance)
font_asks number height advance f h a =
    let n1 : number < 2 ^ 32 = grind (arith, nat_tests, f) in
    let n2 : height < 2 ^ 32 = grind (arith, nat_tests, h) in
    let n3 : advance < 2 ^ 32 = grind (arith, nat_tests, a) in
    let plain : are_words (decimal number ∷ decimal height ∷ decimal advance ∷ []) ≡ true =
    rw (prints_words.count number (omega (arith, n1)), prints_words.count height (omega (arith, n2)), prints_words.count advance (omega (arith, n3))) refl in
    words_say_so (codes "font") (decimal number ∷ decimal height ∷ decimal advance ∷ []) refl plain
    (three_short (decimal number) (decimal height) (decimal advance) (prints_short.count number n1) (prints_short.count height n2) (prints_short.count advance n3))
    ∙ font_lines_say.font (decimal number) (decimal height) (decimal advance) number height advance
    (count_says FONT.low FONT.high number (omega (arith, n1)) f) (count_says FONT_HEIGHT.low FONT_HEIGHT.high height (omega (arith, n2)) h)
    (count_says ADVANCE.low ADVANCE.high advance (omega (arith, n3)) (grind (arith, nat_tests, a)))

end_asks : (number : ℕ) → is_counted FONT number ≡ true → parse (line_text (codes "endfont") (decimal number ∷ [])) ≡ asks (change.EndFont number)
end_asks number f =
    let n1 : number < 2 ^ 32 = grind (arith, nat_tests, f) in
    let plain : are_words (decimal number ∷ []) ≡ true = rw (prints_words.count number (omega (arith, n1))) refl in
    let short : length (line_text (codes "endfont") (decimal number ∷ [])) ≤ max_line =
    omega (arith, prints_short.count number n1, more_spaced (decimal number) [], length-append (codes "endfont") (spaced (decimal number ∷ []))) in
    words_say_so (codes "endfont") (decimal number ∷ []) refl plain short
    ∙ font_lines_say.end (decimal number) number (count_says FONT.low FONT.high number (omega (arith, n1)) f)

comment_says : (n : ℕ) → n < 2 ^ 32 → parse (codes "# left out " ++ decimal n) ≡ Ok Blank
unfolding line_says
comment_says n h =
    let short : nat_lt max_line (length (codes "# left out " ++ decimal n)) ≡ false =
    grind (arith, nat_tests, prints_short.count n h, length-append (codes "# left out ") (decimal n)) in
    rw short refl

lines_of_font : (number : ℕ) (font : Font) → is_counted FONT number ≡ true → SoundFont font → font.left_out < 2 ^ 32 →
    map (λ line. parse line) (font_lines number font) ≡ font_asked number font
unfolding font_line end_line left_line
lines_of_font number font f h few =
    ap₂ (λ (said : Said) (rest : List Said). said ∷ rest)
    (font_asks number (font_height font.bounds) (advance_in font.bounds) f (height_is font.bounds h.bounds) (advance_is font.bounds))
    (map-append (λ (line : List ℕ). parse line) (map (glyph_text number) font.glyphs) (last_lines number font.left_out)
    ∙ ap₂ (λ (xs ys : List Said). xs ++ ys) (glyphs_ask number font.glyphs f h.glyphs)
    (rw (end_asks number f, comment_says font.left_out few) refl))

of_result : (number n : ℕ) (r : Result Font ℕ) → is_counted FONT number ≡ true → n < 2 ^ 32 → IfOk r SoundFont → IfOk r (λ font. font.left_out ≤ n) →
    IfOk r (λ font. map (λ line. parse line) (font_lines number font) ≡ font_asked number font)
of_result number n (Ok font) f few h k = lines_of_font number font f h (omega (arith, few, k))
of_result number n (Err line) f few h k = tt

pub lines_ask : LinesAsk
lines_ask number bytes low high few = of_result number (length bytes) (bdf bytes) (grind (arith, nat_tests, low, high)) few (sound_font bytes) (few_left_out bytes)
