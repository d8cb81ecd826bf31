-- What a line of the input says.
use Rattle.std.specs.Prelude.{ℕ, ℤ, List, Option, FitsSigned, MatchOption, ◌≡◌}
use Rattle.std.specs.Str.{trim}
use Rattle.std.specs.Str.Parse.{IsNumeral, signed_digits_value, without_leading_sign}
use Rattle.std.specs.Int.{w32}

-- the number of the digits of a line, where white space around them does not count
abbrev pub number_in : List ℕ → ℤ
number_in line = signed_digits_value 10 (trim line)

-- A line says a number: decimal digits, after a sign perhaps, of a number of 32 bits.
pub record SaysNumber (line : List ℕ) : Type 0 where
  pub digits : IsNumeral 10 (without_leading_sign (trim line))
  pub fits : FitsSigned w32 (number_in line)

-- it is the number that the line says, if the line says one
abbrev pub IsNumberOf : List ℕ → Option ℤ → Type 0
IsNumberOf line number = MatchOption number (¬ (SaysNumber line)) (λ n. SaysNumber line × (n ≡ number_in line))
