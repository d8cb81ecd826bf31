-- Rows that are mixed as one group.
use Rattle.std.specs.Prelude.{◌≡◌, ℕ, ◌+◌, ◌-◌, ◌<◌, List, length, slice_index_or}
use Rattle.gui_base.specs.declared.color.Rgb565.{Rgb565}
use Rattle.gui_base.specs.Color.{black}

-- a group has the first four pixels of a row, and then its last four
abbrev pub HasEnds : List Rgb565 → List Rgb565 → Type 0
HasEnds row group = (k : ℕ) → k < 4 →
    (slice_index_or group k black ≡ slice_index_or row k black)
    × (slice_index_or group (4 + k) black ≡ slice_index_or row (length row - 4 + k) black)
