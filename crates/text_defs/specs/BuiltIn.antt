-- The built-in font: lines of 8 pixels, cells of 6, and for each of the codes 32 to 126 a glyph of 5 by 7
-- pixels at the cell's top left.
use Rattle.std.specs.Prelude.{ℕ, ◌+◌, ◌-◌, ◌*◌, Bool, false, ◌&&◌, nat_lt, nat_le, slice_index}
use Rattle.std.specs.Prelude.{ℤ, pos, negsuc}
use Rattle.text_defs.specs.declared.built_in.TheConstants.{COLUMNS, HEIGHT, ADVANCE}
use Rattle.text_defs.specs.Bits.{bit}
use Rattle.text_defs.specs.Face.{Face}

-- whether it has a glyph of a code
abbrev pub has_built_in : ℕ → Bool
has_built_in code = nat_le 32 code && nat_lt code 127

-- column x of the glyph of a code, bit 0 the top row
unfoldable pub column_of : ℕ → ℕ → ℕ
column_of code x = slice_index COLUMNS (5 * (code - 32) + x)

-- whether a point of a cell is set, counted from its top left
abbrev pub dot_in : ℕ → ℤ → ℤ → Bool
dot_in code (pos x) (pos y) = has_built_in code && (nat_lt x 5 && nat_lt y 7) && bit (column_of code x) y
dot_in code (negsuc x) y = false
dot_in code (pos x) (negsuc y) = false

-- the built-in font, as texts need it
abbrev pub built_in : Face
built_in = record { height = HEIGHT; cell = λ code. record { advance = ADVANCE; dot = dot_in code } }
