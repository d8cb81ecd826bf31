-- The pixels of a glyph that are seen, along one axis.
use Rattle.std.specs.Prelude.{◌≡◌, ℕ, ◌+◌, ◌≤◌, Bool, ◌&&◌, ℤ, pos, negsuc, ◌≤ℤ◌, ◌+ℤ◌}
use Rattle.std.specs.Int.Signed.{le_z}
use Rattle.gui_base.specs.Area.{count_between}
use Rattle.gui_draw.specs.declared.glyphs.Span.{Span}

-- a number is one of so many from another on
abbrev pub is_among : ℤ → ℕ → ℤ → Bool
is_among from n v = le_z from v && le_z (v +ℤ pos 1) (from +ℤ pos n)

-- whether a pixel between two others lies in a cell and in a glyph's box in it
abbrev pub is_seen : ℤ → ℤ → ℤ → ℕ → ℤ → ℕ → ℤ → Bool
is_seen low high cell advance offset size v =
    ((le_z low v && le_z v high) && is_among cell advance v) && is_among (cell +ℤ offset) size v

-- the pixels from `from` to `to` do, and the first of them is number `first` of the box
pub record IsSpan (low high cell : ℤ) (advance : ℕ) (offset : ℤ) (size : ℕ) (span : Span) : Type 0 where
  pub order : span.from ≤ℤ span.to
  pub after : low ≤ℤ span.from
  pub before : span.to ≤ℤ high
  pub seen : (v : ℤ) → is_seen low high cell advance offset size v ≡ (le_z span.from v && le_z v span.to)
  pub first_is : (cell +ℤ offset) +ℤ pos span.first ≡ span.from
  pub fits : span.first + count_between span.from span.to ≤ size

-- a number that leaves room for a cell
abbrev pub IsFar : ℤ → Type 0
IsFar n = (negsuc 1000000000000 ≤ℤ n) × (n ≤ℤ pos 1000000000000)
