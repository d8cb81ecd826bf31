-- Laws on the texts of lines: what is written is read again.
use Rattle.std.specs.Prelude.{◌≡◌, ◌≤◌, ◌<◌, ◌+◌, ◌*◌, ◌^◌, true, ℕ, ℤ, ◌&&◌, nat_le, int_le, List, length, decimal, Ok}
use Rattle.std.specs.Fmt.{signed_decimal}
use Rattle.std.specs.List.{list_all}
use Rattle.hex.specs.Hex.{decode_of, is_hex_digit}
use lib.Signed.{mag}
use Rattle.scene_defs.specs.Texts.{is_text as is_text_of_object}
use Rattle.run_defs.specs.Commands.{command_says}
use Rattle.run_defs.specs.Language.{Word}
use Rattle.run_defs.specs.Numbers.{number, natural, bytes_said}
use Rattle.run_defs.specs.Script.{parse, max_line}
use Rattle.run_defs.specs.Texts.{text_said}
use Rattle.line_texts.specs.LineTexts.{line_text, are_words, is_name, is_plain, is_text, digits_word}
use Rattle.line_texts.specs.Quoting.{quoted, is_in_text}

-- a line that is not too long says what its words say
abbrev pub WordsSay : Type 0
WordsSay =
    (name : Word) (words : List Word) →
    is_name name ≡ true → are_words words ≡ true → length (line_text name words) ≤ max_line →
    parse (line_text name words) ≡ command_says name words

-- a number in its interval says itself
abbrev pub NumberSays : Type 0
NumberSays =
    (low high n : ℤ) → mag n < 2 ^ 63 → (int_le low n && int_le n high) ≡ true →
    number low high (signed_decimal n) ≡ Ok n

-- so does one in an interval that has none below 0
abbrev pub CountSays : Type 0
CountSays =
    (low high n : ℕ) → n < 2 ^ 64 → (nat_le low n && nat_le n high) ≡ true →
    natural low high (decimal n) ≡ Ok n

-- hexadecimal digits say the bytes that they are decoded to
abbrev pub DigitsSay : Type 0
DigitsSay = (digits bytes : List ℕ) → decode_of digits ≡ Ok bytes → length digits ≤ 4096 →
    bytes_said (digits_word digits) ≡ Ok bytes

-- a text that an object may have, with no control character but newlines, says itself
abbrev pub TextSays : Type 0
TextSays = (text : List ℕ) → is_text_of_object text ≡ true → list_all is_in_text text ≡ true →
    text_said (quoted text) ≡ Ok text

-- what is printed are words of a line
pub record PrintsWords : Type 0 where
  pub number : (n : ℤ) → mag n < 2 ^ 63 → is_plain (signed_decimal n) ≡ true
  pub count : (n : ℕ) → n < 2 ^ 64 → is_plain (decimal n) ≡ true
  pub digits : (digits : List ℕ) → list_all is_hex_digit digits ≡ true → is_plain (digits_word digits) ≡ true
  pub text : (text : List ℕ) → list_all is_in_text text ≡ true → is_text (quoted text) ≡ true

-- how long they are at most
pub record PrintsShort : Type 0 where
  pub number : (n : ℤ) → mag n < 2 ^ 32 → length (signed_decimal n) ≤ 11
  pub count : (n : ℕ) → n < 2 ^ 32 → length (decimal n) ≤ 10
  pub digits : (digits : List ℕ) → length (digits_word digits) ≤ length digits + 1
  pub text : (text : List ℕ) → length (quoted text) ≤ 2 * length text + 2
