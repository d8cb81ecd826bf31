-- The numbers of rows.
use Rattle.std.proofs.Common.{◌≡◌, true, ◌&&◌, ℤ, arith, rules}
use Rattle.std.specs.Prelude.{int_le, int_lt}
use Rattle.std.proofs.lemmas.Bool.{and_parts, and_from}
use Rattle.std.proofs.lemmas.Bool.Decides.{nat_tests}
use Rattle.std.proofs.lemmas.Int.{ints}
use Rattle.scene_defs.specs.declared.Change.{Change}
use Rattle.scene_defs.specs.declared.Change.TheVariants as change
use Rattle.gui_base.specs.Intervals.{is_counted, is_within}
use Rattle.gui_base.specs.declared.intervals.TheConstants.{GROW, SCROLL}
use Rattle.scene_defs.specs.Deeds.{row_after, is_in_range}
use Rattle.scene_defs.specs.Row.{is_cross, is_ranged, brought_in}
use Rattle.scene_defs.specs.declared.Row.{Row}
use Rattle.scene_defs.specs.Valid.{IsOffset, IsSize, IsRow}

-- the numbers of a row in range, one by one
pub record Numbers (row : Row) : Type 0 where
  pub x : IsOffset row.x
  pub y : IsOffset row.y
  pub width : IsSize row.width
  pub height : IsSize row.height
  pub cross : is_cross row.places.1 ≡ true
  pub grow : is_counted GROW row.grow ≡ true
  pub scroll_x : is_within SCROLL row.scroll_x ≡ true
  pub scroll_y : is_within SCROLL row.scroll_y ≡ true
  pub ranged : is_ranged row ≡ true

pub numbers_of : (row : Row) → IsRow row → Numbers row
numbers_of row r = search (rules, and_parts)

-- what is brought into a range lies in it
brought-in : (low high n : ℤ) → int_lt low high ≡ true → (int_le low (brought_in low high n) && int_le (brought_in low high n) high) ≡ true
brought-in low high n order = grind (arith, ints, nat_tests, order)

-- a change in range leaves a row in range
pub row_in_range : (change : Change) (row : Row) → is_in_range change ≡ true → IsRow row → IsRow (row_after change row)
row_in_range (change.Value h n) row e r = search (rules, and_parts, and_from, brought-in)
row_in_range change row e r = search (rules, and_parts, and_from, brought-in)
