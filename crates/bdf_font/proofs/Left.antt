-- A line leaves out one character at most.
use Rattle.std.proofs.Common.{◌≡◌, refl, ℕ, zero, suc, ◌+◌, ◌≤◌, Bool, true, false, List, [], ◌∷◌, length, arith}
use Rattle.std.specs.Prelude.{Some, None, IfSome, IfOk, option_map, if◌then◌else◌}
use Rattle.std.specs.declared.option.Option.{Option}
use Rattle.std.specs.declared.result.Result.{Result}
use Rattle.run_defs.specs.Language.{Word}
use Rattle.bdf_font.specs.declared.keywords.Keyword.{Keyword}
use Rattle.bdf_font.specs.declared.characters.Character.{Character}
use Rattle.bdf_font.specs.declared.keywords.Phase.{Phase}
use Rattle.bdf_font.specs.declared.keywords.Phase.TheVariants.{Start, Head, Properties, Char, Rows, Between, Ended}
use Rattle.bdf_font.specs.Bdf.{Font, nothing_read, width_in}
use Rattle.bdf_font.specs.Bdf.{head_line, char_line, is_row, glyph_of, with_glyph, character_of, end_line, between_line, start_line, properties_line}
use Rattle.bdf_font.specs.Bdf.{line_in, keyword_line, words_line, after_line, whole_font, goes_on, font_from, bdf, keyword_of}
use Rattle.bdf_font.specs.Lines.{file_lines, trimmed, file_words}

-- at most one more
abbrev pub Few : Font → Font → Type 0
Few font next = next.left_out ≤ font.left_out + 1

if-few : (font next : Font) (test : Bool) → next.left_out ≡ font.left_out → IfSome (if test then Some next else None) (Few font)
if-few font next true same = omega (arith, same)
if-few font next false same = tt

few-start : (font : Font) (keyword : Option Keyword) → IfSome (start_line font keyword) (Few font)
few-start font keyword = grind arith

few-properties : (font : Font) (keyword : Option Keyword) → IfSome (properties_line font keyword) (Few font)
few-properties font keyword = grind arith

few-between : (font : Font) (keyword : Option Keyword) → IfSome (between_line font keyword) (Few font)
few-between font keyword = grind arith

few-head : (font : Font) (keyword : Option Keyword) (words : List Word) → IfSome (head_line font keyword words) (Few font)
few-head font keyword words = grind arith

few-char : (font : Font) (keyword : Option Keyword) (words : List Word) → IfSome (char_line font keyword words) (Few font)
few-char font keyword words = grind arith

few-glyph : (font : Font) (l : Character) → Few font (with_glyph font (glyph_of l))
few-glyph font l = grind arith

few-character : (font : Font) (o : Option Character) → IfSome (option_map (λ l. with_glyph font (glyph_of l)) o) (Few font)
few-character font None = tt
few-character font (Some l) = few-glyph font l

few-end : (font : Font) (keyword : Option Keyword) → IfSome (end_line font keyword) (Few font)
few-end font keyword = grind (arith, few-character font (character_of font))

few-in : (phase : Phase) (font : Font) (keyword : Option Keyword) (words : List Word) (line : List ℕ) → IfSome (line_in phase font keyword words line) (Few font)
few-in Start font keyword words line = few-start font keyword
few-in Head font keyword words line = few-head font keyword words
few-in Properties font keyword words line = few-properties font keyword
few-in Char font keyword words line = few-char font keyword words
few-in (Rows zero) font keyword words line = few-end font keyword
few-in (Rows (suc n)) font keyword words line = if-few font _ (is_row (width_in font.shape) line) refl
few-in Between font keyword words line = few-between font keyword
few-in Ended font keyword words line = omega arith

few-keyword : (font : Font) (keyword : Option Keyword) (words : List Word) (line : List ℕ) → IfSome (keyword_line font keyword words line) (Few font)
few-keyword font keyword words line = grind (arith, few-in font.phase font keyword words line)

few-words : (font : Font) (words : List Word) (line : List ℕ) → IfSome (words_line font words line) (Few font)
few-words font [] line = omega arith
few-words font (name ∷ words) line = few-keyword font (keyword_of name) words line

few-line : (font : Font) (line : List ℕ) → IfSome (after_line font line) (Few font)
unfolding after_line
few-line font line = few-words font (file_words (trimmed line)) (trimmed line)

few-whole : (font : Font) (number : ℕ) (phase : Phase) (k : ℕ) → font.left_out ≤ k → IfOk (whole_font font number phase) (λ next. next.left_out ≤ k)
few-whole font number phase k h = grind (arith, h)

few-on : (font : Font) (next : Option Font) (number k : ℕ) (rest : Font → Result Font ℕ) → IfSome next (Few font) → ((later : Font) → Few font later → IfOk (rest later) (λ last. last.left_out ≤ k)) →
    IfOk (goes_on rest number next) (λ last. last.left_out ≤ k)
few-on font None number k rest h f = tt
few-on font (Some next) number k rest h f = f next h

few-from : (font : Font) (number k : ℕ) (lines : List (List ℕ)) → font.left_out + length lines ≤ k → IfOk (font_from font number lines) (λ last. last.left_out ≤ k)
few-from font number k [] h = few-whole font number font.phase k (omega (arith, h))
few-from font number k (line ∷ lines) h =
    few-on font (after_line font line) number k (λ next. font_from next (number + 1) lines) (few-line font line)
    (λ next few. few-from next (number + 1) k lines (omega (arith, h, few)))

-- there are no more lines than bytes
few_lines : (bytes : List ℕ) → length (file_lines bytes) ≤ length bytes
few_lines [] = omega arith
few_lines (b ∷ bs) = grind (arith, few_lines bs)

pub few_left_out : (bytes : List ℕ) → IfOk (bdf bytes) (λ font. font.left_out ≤ length bytes)
unfolding bdf
few_left_out bytes = few-from nothing_read 1 (length bytes) (file_lines bytes) (let few = few_lines bytes in omega (arith, few))
