-- What a text needs of a font: how high its lines are, and the cell of each character.
use Rattle.std.specs.Prelude.{ℕ, Bool, ℤ}

-- how far a character takes the next one, and which points of its glyph are set, counted from the top left of
-- its cell
pub record Cell : Type 0 where
  pub advance : ℕ
  pub dot : ℤ → ℤ → Bool

-- the height of the lines in pixels, and the cell of the character of each code
pub record Face : Type 0 where
  pub height : ℕ
  pub cell : ℕ → Cell
