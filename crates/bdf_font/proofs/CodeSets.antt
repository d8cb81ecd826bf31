-- Sets of codes, and the codes of glyphs.
use Rattle.std.proofs.Common.{◌≡◌, ◌∙◌, refl, ℕ, ◌/◌, ◌%◌, ◌<◌, ◌==◌, ◌||◌, Bool, true, false, List, [], ◌∷◌, ◌++◌, length, get_or, arith}
use Rattle.std.specs.Prelude.{nat_lt}
use Rattle.std.proofs.lemmas.Bool.Decides.{nat_tests}
use Rattle.std.proofs.lemmas.List.{get_or_past}
use Rattle.std.proofs.lemmas.List.Folds.{list_any-append}
use Rattle.gui_base.specs.Bits.{has_bit}
use Rattle.gui_base.specs.declared.bits.Bits.{Bits}
use Rattle.bdf_font.specs.Bdf.{Glyph, has_code}
use Rattle.bdf_font.specs.Codes.{empty_block, is_in}

-- one glyph more has one code more
pub one_more : (glyphs : List Glyph) (glyph : Glyph) (k : ℕ) → has_code (glyphs ++ glyph ∷ []) k ≡ (k == glyph.code || has_code glyphs k)
one_more glyphs glyph k = list_any-append (λ (g : Glyph). g.code == k) glyphs (glyph ∷ []) ∙ grind (arith, nat_tests)

no_bit : (m : ℕ) → has_bit 0 m ≡ false
unfolding has_bit
no_bit m = grind (arith, nat_tests)

in_empty : (block : Bits) (m : ℕ) → block ≡ empty_block → has_bit block.0 m ≡ false
in_empty block m e = rw e (no_bit m)

-- no code is in blocks that are all empty
pub none_in : (blocks : List Bits) (n : ℕ) → length blocks ≡ n → ((i : ℕ) (d : Bits) → i < n → get_or blocks i d ≡ empty_block) → (k : ℕ) → is_in blocks k ≡ false
none_in blocks n e f k = by (nat_lt (k / 16) n) refl where
  by : (test : Bool) → nat_lt (k / 16) n ≡ test → is_in blocks k ≡ false
  by true t = in_empty (get_or blocks (k / 16) empty_block) (k % 16) (f (k / 16) empty_block (grind (arith, nat_tests, t)))
  by false t = in_empty (get_or blocks (k / 16) empty_block) (k % 16) (get_or_past blocks (k / 16) empty_block (grind (arith, nat_tests, t, e)))
