-- How numbers are read.
use Rattle.std.proofs.Common.{◌≡◌, refl, arith}
use Rattle.std.specs.Prelude.{ℤ, pos, neg_ℤ, ◌<ℤ◌, ◌≤ℤ◌, Some, None, option_map}
use Rattle.std.specs.declared.option.Option.{Option}
use Rattle.std.proofs.lemmas.Int.{ints}
use Rattle.std.proofs.lemmas.Bool.Decides.{nat_tests}
use Rattle.bdf_font.specs.Lines.{up_to}
use Rattle.bdf_font.specs.Capped.{beyond, capped}

-- the capped number may be asked
up_to_capped : (most : ℤ) (o : Option ℤ) → most <ℤ pos beyond → up_to most o ≡ up_to most (option_map capped o)
up_to_capped most None h = refl
up_to_capped most (Some z) h = grind (arith, ints, nat_tests)

pub no_number : (most : ℤ) (o : Option ℤ) → most <ℤ pos beyond → option_map capped o ≡ None → up_to most o ≡ None
no_number most o h e = grind (arith, up_to_capped most o h, e)

pub inside : (most : ℤ) (o : Option ℤ) (n : ℤ) → most <ℤ pos beyond → option_map capped o ≡ Some n → neg_ℤ (pos 32768) ≤ℤ n → n ≤ℤ most → up_to most o ≡ Some n
inside most o n h e low high = grind (arith, ints, nat_tests, up_to_capped most o h, e, low, high)

pub below : (most : ℤ) (o : Option ℤ) (n : ℤ) → most <ℤ pos beyond → option_map capped o ≡ Some n → n <ℤ neg_ℤ (pos 32768) → up_to most o ≡ None
below most o n h e low = grind (arith, ints, nat_tests, up_to_capped most o h, e, low)

pub above : (most : ℤ) (o : Option ℤ) (n : ℤ) → most <ℤ pos beyond → option_map capped o ≡ Some n → most <ℤ n → up_to most o ≡ None
above most o n h e high = grind (arith, ints, nat_tests, up_to_capped most o h, e, high)

pub ruleset ranges = (no_number, inside, below, above)
