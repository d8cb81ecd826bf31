-- Bits that say over which pixels of a row a colour is mixed.
use Rattle.std.specs.Prelude.{ℕ, ◌-◌, ◌/◌, ◌%◌, ◌^◌, Bool, if◌then◌else◌, ◌==◌, List, slice_index}
use Rattle.gui_base.specs.declared.color.Rgb565.{Rgb565}
use Rattle.gui_base.specs.Color.{mix}

-- bit k of some bytes, counted from the highest of the first
unfoldable pub mask_bit : List ℕ → ℕ → Bool
mask_bit bytes k = slice_index bytes (k / 8) / 2 ^ (7 - k % 8) % 2 == 1

-- a colour over another where a bit is set
abbrev pub masked : Bool → Rgb565 → ℕ → Rgb565 → Rgb565
masked set fg opa bg = if set then mix fg bg opa else bg
