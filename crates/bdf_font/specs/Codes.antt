-- Sets of codes of characters.
use Rattle.std.specs.Prelude.{ℕ, ◌/◌, ◌%◌, Bool, List, get_or}
use Rattle.gui_base.specs.Bits.{has_bit}
use Rattle.gui_base.specs.declared.bits.Bits.{Bits}

-- no code of a block is in the set
abbrev pub empty_block : Bits
empty_block = record { 0 = 0 }

-- whether the bit of a code is 1, where each block has the bits of sixteen codes
abbrev pub is_in : List Bits → ℕ → Bool
is_in blocks code = has_bit (get_or blocks (code / 16) empty_block).0 (code % 16)
