-- Hexadecimal digits say their bytes.
use Rattle.std.proofs.Common.{◌≡◌, refl, ℕ, false, List, [], ◌∷◌, length, arith}
use Rattle.std.specs.Prelude.{nat_lt, Ok, bytes_eq, codes}
use Rattle.std.proofs.lemmas.Bool.Decides.{nat_tests}
use Rattle.hex.specs.Hex.{decode_of, decode_pairs}
use Rattle.scene_defs.specs.RowBytes.{bytes_in_hex, most_digits}
use Rattle.run_defs.specs.Numbers.{bytes_said}
use Rattle.line_texts.specs.Laws.{DigitsSay}

-- digits are no dash
no_dash : (b : ℕ) (bs bytes : List ℕ) → decode_of (b ∷ bs) ≡ Ok bytes → bytes_eq (b ∷ bs) (codes "-") ≡ false
no_dash b [] bytes h = grind (arith, nat_tests, h)
no_dash b (c ∷ cs) bytes h = grind (arith, nat_tests)

none_say : (bytes : List ℕ) → decode_of [] ≡ Ok bytes → [] ≡ bytes
unfolding decode_pairs
none_say bytes h = cc

pub digits_say : DigitsSay
unfolding bytes_said bytes_in_hex
digits_say [] bytes h short = rw (← none_say bytes h) refl
digits_say (b ∷ bs) bytes h short =
    let fits : nat_lt most_digits (length (b ∷ bs)) ≡ false = grind (arith, nat_tests, short) in
    rw (no_dash b bs bytes h, fits, h) refl
