-- The number of a bad line is that of the first at which lines begin no font.
use Rattle.std.proofs.Common.{◌≡◌, ◌∙◌, refl, ap, ℕ, zero, suc, ◌+◌, ◌-◌, ◌≤◌, ◌<◌, true, false, not, ◌&&◌, List, [], ◌∷◌, ◌++◌, length, take, map, arith}
use Rattle.std.specs.Prelude.{ℤ, pos, unsigned_abs, unwrap_or, Some, None, Ok, Err, IsOk, IfSome, IfErr, is_some, codes}
use Rattle.std.specs.List.{list_all, list_any}
use Rattle.std.specs.Option.{option_and_then}
use Rattle.std.specs.declared.option.Option.{Option}
use Rattle.std.specs.declared.result.Result.{Result}
use Rattle.std.proofs.lemmas.Bool.Decides.{nat_tests}
use Rattle.gui_base.specs.Names.{named}
use Rattle.hex.specs.Hex.{is_hex_digit}
use Rattle.run_defs.specs.Script.{is_newline}
use Rattle.bdf_font.specs.declared.characters.Character.{Character}
use Rattle.bdf_font.specs.declared.characters.Extents.{Extents}
use Rattle.bdf_font.specs.declared.keywords.Phase.{Phase}
use Rattle.bdf_font.specs.declared.keywords.Phase.TheVariants.{Start, Head, Properties, Char, Rows, Between, Ended}
use Rattle.bdf_font.specs.Bdf.{Font, nothing_read, in_phase, glyph_of, with_glyph, is_row, row_digits, upper, keyword_of, after_line, whole_font, goes_on, font_from, bdf}
use Rattle.bdf_font.specs.Beginnings.{IsFirstBad, BadLineIsFirst, is_line}
use Rattle.bdf_font.specs.Lines.{file_lines, file_words, split_from, trimmed, to_end, integer}
use Rattle.bdf_font.proofs.Sound.{Sound, HasBounds, HasCharacter, sound-line, sound-nothing}

-- Each font that is read so far can be completed.

record Completes (font : Font) : Type 0 where
  more : List (List ℕ)
  each : list_all is_line more ≡ true
  ends : (number : ℕ) → IsOk (font_from font number more)

completes-at : (font other : Font) → font ≡ other → Completes other → Completes font
completes-at font other e h = record { more = h.more; each = h.each; ends = λ number. rw e (h.ends number) }

goes-on : (font : Font) (o : Option Font) (next : Font) (number : ℕ) (lines : List (List ℕ)) → o ≡ Some next → IsOk (font_from next (number + 1) lines) →
    IsOk (goes_on (λ next. font_from next (number + 1) lines) number o)
goes-on font o next number lines e h = rw e h

-- by a line more
by_line : (font next : Font) (line : List ℕ) → is_line line ≡ true → after_line font line ≡ Some next → Completes next → Completes font
by_line font next line one e h =
    record { more = line ∷ h.more; each = rw one h.each; ends = λ number. goes-on font (after_line font line) next number h.more e (h.ends (number + 1)) }

from-ended : (font : Font) → Completes (in_phase Ended font)
from-ended font = record { more = []; each = refl; ends = λ number. refl }

from-between : (font : Font) → Completes (in_phase Between font)
unfolding after_line keyword_of named
from-between font = by_line (in_phase Between font) (in_phase Ended font) (codes "ENDFONT") refl refl (from-ended font)

from-box : (font : Font) (e : Extents) → Completes (record font { phase = Head; bounds = Some e })
unfolding after_line keyword_of named
from-box font e =
    by_line (record font { phase = Head; bounds = Some e }) (record font { phase = Ended; bounds = Some e }) (codes "ENDFONT") refl refl (from-ended (record font { bounds = Some e }))

from-head : (font : Font) → Completes (in_phase Head font)
unfolding after_line keyword_of named integer
from-head font = by_line (in_phase Head font) _ (codes "FONTBOUNDINGBOX 1 1 0 0") refl refl (from-box font _)

from-start : (font : Font) → Completes (in_phase Start font)
unfolding after_line keyword_of named
from-start font = by_line (in_phase Start font) (in_phase Head font) (codes "STARTFONT") refl refl (from-head font)

from-properties : (font : Font) → Completes (in_phase Properties font)
unfolding after_line keyword_of named
from-properties font = by_line (in_phase Properties font) (in_phase Head font) (codes "ENDPROPERTIES") refl refl (from-head font)

-- a character was read
after_glyph : (font : Font) (l : Character) → (with_glyph font (glyph_of l)).phase ≡ Between
after_glyph font l = grind arith

from-glyph : (font : Font) → font.phase ≡ Between → Completes font
from-glyph font is = completes-at font (in_phase Between font) (ap (λ (phase : Phase). in_phase phase font) is) (from-between font)

-- Rows.

abbrev zeros : ℕ → List ℕ
zeros zero = []
zeros (suc n) = 48 ∷ zeros n

trimmed-zeros : (n : ℕ) → trimmed (zeros n) ≡ zeros n
trimmed-zeros zero = refl
trimmed-zeros (suc n) = ends n where
  ends : (n : ℕ) → to_end (zeros (suc n)) ≡ zeros (suc n)
  ends zero = refl
  ends (suc n) = rw (ends n) refl

trimmed-row : (n : ℕ) → trimmed (48 ∷ 48 ∷ zeros n) ≡ 48 ∷ 48 ∷ zeros n
trimmed-row n = trimmed-zeros (suc (suc n))

within-zeros : (n : ℕ) → split_from true (zeros n) ≡ zeros n ∷ []
within-zeros zero = refl
within-zeros (suc n) = rw (within-zeros n) refl

length-zeros : (n : ℕ) → length (zeros n) ≡ n
length-zeros zero = refl
length-zeros (suc n) = ap suc (length-zeros n)

zeros-hex : (n : ℕ) → list_all is_hex_digit (zeros n) ≡ true
zeros-hex zero = refl
zeros-hex (suc n) = zeros-hex n

-- two digits more than count, so that it is no blank line
abbrev row-of : ℕ → List ℕ
row-of w = 48 ∷ 48 ∷ zeros (row_digits w)

is_row-of : (w : ℕ) → is_row w (row-of w) ≡ true
is_row-of w = grind (arith, nat_tests, length-zeros (row_digits w), zeros-hex (row_digits w))

zeros-line : (n : ℕ) → list_any is_newline (zeros n) ≡ false
zeros-line zero = refl
zeros-line (suc n) = zeros-line n

row-line : (w : ℕ) → is_line (row-of w) ≡ true
row-line w = ap not (zeros-line (row_digits w))

-- a character whose rows begin
abbrev in_rows : ℕ → Extents → ℤ → Extents → Font → Font
in_rows n bounds code shape font = record font { phase = Rows n; bounds = Some bounds; code = Some code; shape = Some shape }

from-last : (font : Font) (bounds : Extents) (code : ℤ) (shape : Extents) → Completes (in_rows 0 bounds code shape font)
unfolding after_line keyword_of named
from-last font bounds code shape =
    by_line (in_rows 0 bounds code shape font) _ (codes "ENDCHAR") refl refl
    (from-glyph _ (after_glyph (in_rows 0 bounds code shape font) (record { bounds = bounds; code = code; advance = unwrap_or font.advance bounds.w; shape = shape })))

abbrev with_row : ℕ → Font → Font
with_row w font = record font { digits = font.digits ++ map upper (take (row_digits w) (row-of w)) }

more_rows : (n : ℕ) (bounds : Extents) (code : ℤ) (shape : Extents) (font : Font) →
    after_line (in_rows (suc n) bounds code shape font) (row-of (unsigned_abs shape.w))
    ≡ Some (in_rows n bounds code shape (with_row (unsigned_abs shape.w) font))
unfolding after_line keyword_of named
more_rows n bounds code shape font =
    let w = unsigned_abs shape.w in
    let line = row-of w in
    let whole : trimmed line ≡ line = trimmed-row (row_digits w) in
    let word : file_words line ≡ line ∷ [] = rw (within-zeros (row_digits w)) refl in
    rw (whole, word, is_row-of w) refl

from-rows : (n : ℕ) (font : Font) (bounds : Extents) (code : ℤ) (shape : Extents) → Completes (in_rows n bounds code shape font)
from-rows zero font bounds code shape = from-last font bounds code shape
from-rows (suc n) font bounds code shape =
    by_line (in_rows (suc n) bounds code shape font) _ (row-of (unsigned_abs shape.w)) (row-line (unsigned_abs shape.w)) (more_rows n bounds code shape font)
    (from-rows n (with_row (unsigned_abs shape.w) font) bounds code shape)

abbrev with_parts : Phase → Option Extents → Option ℤ → Option Extents → Font → Font
with_parts phase bounds code shape font = record font { phase = phase; bounds = bounds; code = code; shape = shape }

from-parts : (n : ℕ) (font : Font) (bounds : Option Extents) (code : Option ℤ) (shape : Option Extents) → is_some bounds ≡ true →
    (is_some code && is_some shape) ≡ true → Completes (with_parts (Rows n) bounds code shape font)
from-parts n font None code shape h k = cc
from-parts n font (Some bounds) None shape h k = cc
from-parts n font (Some bounds) (Some code) None h k = cc
from-parts n font (Some bounds) (Some code) (Some shape) h k = from-rows n font bounds code shape

-- A character before its rows.

abbrev small_box : Extents
small_box = record { w = pos 0; h = pos 0; x = pos 0; y = pos 0 }

from-char : (font : Font) (bounds : Option Extents) → is_some bounds ≡ true → Completes (record font { phase = Char; bounds = bounds })
unfolding after_line keyword_of named integer
from-char font None h = cc
from-char font (Some bounds) h =
    let first : Font = record font { phase = Char; bounds = Some bounds } in
    let coded : Font = record first { code = Some (pos 65) } in
    let boxed : Font = record coded { shape = Some small_box } in
    by_line first coded (codes "ENCODING 65") refl refl
    (by_line coded boxed (codes "BBX 0 0 0 0") refl refl
    (by_line boxed (in_rows 0 bounds (pos 65) small_box font) (codes "BITMAP") refl refl (from-last font bounds (pos 65) small_box)))

completes : (phase : Phase) (font : Font) → font.phase ≡ phase → Sound font → Completes font
completes Start font is h = completes-at font (in_phase Start font) (ap (λ (phase : Phase). in_phase phase font) is) (from-start font)
completes Head font is h = completes-at font (in_phase Head font) (ap (λ (phase : Phase). in_phase phase font) is) (from-head font)
completes Properties font is h = completes-at font (in_phase Properties font) (ap (λ (phase : Phase). in_phase phase font) is) (from-properties font)
completes Char font is h =
    let bounds : HasBounds Char font.bounds = rw is at h.has_bounds in
    completes-at font (in_phase Char font) (ap (λ (phase : Phase). in_phase phase font) is) (from-char font font.bounds bounds)
completes (Rows n) font is h =
    let bounds : HasBounds (Rows n) font.bounds = rw is at h.has_bounds in
    let parts : HasCharacter (Rows n) font.code font.shape = rw is at h.has_character in
    completes-at font (in_phase (Rows n) font) (ap (λ (phase : Phase). in_phase phase font) is) (from-parts n font font.bounds font.code font.shape bounds parts)
completes Between font is h = from-glyph font is
completes Ended font is h = completes-at font (in_phase Ended font) (ap (λ (phase : Phase). in_phase phase font) is) (from-ended font)

-- The font after some lines.

abbrev after_lines : Font → List (List ℕ) → Option Font
after_lines font [] = Some font
after_lines font (line ∷ lines) = option_and_then (λ next. after_lines next lines) (after_line font line)

sound-after : (lines : List (List ℕ)) (o : Option Font) → ((font : Font) → Sound font → IfSome (after_lines font lines) Sound) → IfSome o Sound →
    IfSome (option_and_then (λ next. after_lines next lines) o) Sound
sound-after lines None f h = tt
sound-after lines (Some font) f h = f font h

sound-lines : (font : Font) (lines : List (List ℕ)) → Sound font → IfSome (after_lines font lines) Sound
sound-lines font [] h = h
sound-lines font (line ∷ lines) h = sound-after lines (after_line font line) (λ next k. sound-lines next lines k) (sound-line font line h)

same_font : (font other : Font) → Some font ≡ Some other → font ≡ other
same_font font other e = cc

sound-of : (font : Font) (o : Option Font) → o ≡ Some font → IfSome o Sound → Sound font
sound-of font None e h = cc
sound-of font (Some other) e h = rw (same_font other font e) at h

past_line : (last : Font) (number k : ℕ) (lines more : List (List ℕ)) (o : Option Font) →
    ((next : Font) → after_lines next lines ≡ Some last → font_from next (number + 1) (lines ++ more) ≡ font_from last k more) →
    option_and_then (λ next. after_lines next lines) o ≡ Some last →
    goes_on (λ next. font_from next (number + 1) (lines ++ more)) number o ≡ font_from last k more
past_line last number k lines more None f e = cc
past_line last number k lines more (Some font) f e = f font e

-- what follows lines goes on with the font after them
goes_past : (font last : Font) (number : ℕ) (lines more : List (List ℕ)) → after_lines font lines ≡ Some last →
    font_from font number (lines ++ more) ≡ font_from last (number + length lines) more
goes_past font last number [] more e = ap (λ (next : Font). font_from next number more) (same_font font last e) ∙ ap (λ (n : ℕ). font_from last n more) (omega arith)
goes_past font last number (line ∷ lines) more e =
    past_line last number (number + length (line ∷ lines)) lines more (after_line font line)
    (λ next k. goes_past next last (number + 1) lines more k ∙ ap (λ (n : ℕ). font_from last n more) (omega arith)) e

never_past : (number : ℕ) (lines more : List (List ℕ)) (o : Option Font) →
    ((next : Font) → after_lines next lines ≡ None → IsOk (font_from next (number + 1) (lines ++ more)) → ⊥) →
    option_and_then (λ next. after_lines next lines) o ≡ None → IsOk (goes_on (λ next. font_from next (number + 1) (lines ++ more)) number o) → ⊥
never_past number lines more None f e h = cc
never_past number lines more (Some font) f e h = f font e h

-- lines at which there is no font begin none
never : (font : Font) (number : ℕ) (lines more : List (List ℕ)) → after_lines font lines ≡ None → IsOk (font_from font number (lines ++ more)) → ⊥
never font number [] more e h = cc
never font number (line ∷ lines) more e h =
    never_past number lines more (after_line font line) (λ next k i. never next (number + 1) lines more k i) e h

-- Where a font stops.

record Stops (font : Font) (number : ℕ) (lines : List (List ℕ)) (bad : ℕ) : Type 0 where
  count : ℕ
  is : bad ≡ number + count
  within : count ≤ length lines
  last : Font
  before : after_lines font (take count lines) ≡ Some last
  here : count < length lines → after_lines font (take (suc count) lines) ≡ None

whole-stops : (font : Font) (number bad : ℕ) (phase : Phase) → whole_font font number phase ≡ Err bad → bad ≡ number
whole-stops font number bad phase e = grind (arith, e)

stops-after : (font : Font) (number : ℕ) (line : List ℕ) (lines : List (List ℕ)) (bad : ℕ) (o : Option Font) →
    ((next : Font) → font_from next (number + 1) lines ≡ Err bad → Stops next (number + 1) lines bad) →
    after_line font line ≡ o → goes_on (λ next. font_from next (number + 1) lines) number o ≡ Err bad → Stops font number (line ∷ lines) bad
stops-after font number line lines bad None f is e =
    let place : bad ≡ number = cc in
    record { count = 0; is = omega (arith, place); within = omega arith; last = font; before = refl; here = λ lt. rw is refl }
stops-after font number line lines bad (Some next) f is e =
    let later = f next e in
    let place = later.is in
    let within = later.within in
    record {
      count = suc later.count;
      is = omega (arith, place);
      within = omega (arith, within);
      last = later.last;
      before = rw is later.before;
      here = λ lt. rw is (later.here (omega (arith, lt)));
    }

stops : (font : Font) (number : ℕ) (lines : List (List ℕ)) (bad : ℕ) → font_from font number lines ≡ Err bad → Stops font number lines bad
stops font number [] bad e =
    let same = whole-stops font number bad font.phase e in
    record { count = 0; is = omega (arith, same); within = omega arith; last = font; before = refl; here = λ lt. absurd (omega (arith, lt)) }
stops font number (line ∷ lines) bad e =
    stops-after font number line lines bad (after_line font line) (λ next k. stops next (number + 1) lines bad k) refl e

stopped : (lines : List (List ℕ)) (bad : ℕ) → Stops nothing_read 1 lines bad → IsFirstBad lines bad
stopped lines bad s =
    let place = s.is in
    let within = s.within in
    let sound = sound-of s.last (after_lines nothing_read (take s.count lines)) s.before (sound-lines nothing_read (take s.count lines) sound-nothing) in
    let rest = completes s.last.phase s.last refl sound in
    let count : bad - 1 ≡ s.count = omega (arith, place) in
    let next : bad ≡ suc s.count = omega (arith, place) in
    record {
      first = omega (arith, place);
      last = omega (arith, place, within);
      before = rw count (record {
        more = rest.more;
        each = rest.each;
        ends = rw (goes_past nothing_read s.last 1 (take s.count lines) rest.more s.before) (rest.ends (1 + length (take s.count lines)));
      });
      here = λ few more ends.
          never nothing_read 1 (take (suc s.count) lines) more (s.here (omega (arith, place, few))) (rw next at ends);
    }

first_bad : (lines : List (List ℕ)) (r : Result Font ℕ) → font_from nothing_read 1 lines ≡ r → IfErr r (λ bad. IsFirstBad lines bad)
first_bad lines (Ok font) e = tt
first_bad lines (Err bad) e = stopped lines bad (stops nothing_read 1 lines bad e)

pub bad_line_is_first : BadLineIsFirst
unfolding bdf
bad_line_is_first bytes = first_bad (file_lines bytes) (bdf bytes) refl
