-- The bytes of a glyph or of a row of an image.
use Rattle.std.specs.Prelude.{◌≤◌, ℕ, List, [], length, nat_lt, if◌then◌else◌, Ok, Err, IsOk, Some, None}
use Rattle.std.specs.declared.option.Option.{Option}
use Rattle.std.specs.declared.result.Result.{Result}
use Rattle.hex.specs.Hex.{decode_of}
use Rattle.hex.specs.declared.error.FromHexError.{FromHexError}
use Rattle.scene_defs.specs.declared.row_bytes.Form.{Form}
use Rattle.scene_defs.specs.declared.row_bytes.Form.TheVariants.{Plain, Hex}

-- the most digits that a line can have
abbrev pub most_digits : ℕ
most_digits = 4096

-- the bytes of digits that could be decoded
abbrev pub decoded : Result (List ℕ) FromHexError → Option (List ℕ)
decoded (Ok bytes) = Some bytes
decoded (Err e) = None

-- what so many hexadecimal digits of either case say: a byte for each two
unfoldable pub bytes_in_hex : List ℕ → Option (List ℕ)
bytes_in_hex digits = if nat_lt most_digits (length digits) then None else decoded (decode_of digits)

abbrev pub or_none : Option (List ℕ) → List ℕ
or_none (Some bytes) = bytes
or_none None = []

abbrev pub bytes_in : Form → List ℕ
bytes_in (Plain bytes) = bytes.now
bytes_in (Hex digits) = or_none (bytes_in_hex digits.now)

-- digits are those of bytes
abbrev pub IsForm : Form → Type 0
IsForm (Plain bytes) = Unit
IsForm (Hex digits) = (length digits.now ≤ most_digits) × IsOk (decode_of digits.now)
