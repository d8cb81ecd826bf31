-- The text of a checkbox in its area.
use Rattle.std.proofs.Common.{◌≡◌, ℕ, None, ap, arith, pos, ℤ, ◌+ℤ◌, ◌-ℤ◌}
use Rattle.std.proofs.lemmas.Int.{ints}
use Rattle.gui_base.specs.Area.{nat_of, area_at, width_of, height_of, count_between}
use Rattle.text_defs.specs.Lines.{lines, widest}
use Rattle.text_defs.proofs.Ending.{wide_lines_end_at_newlines}
use Rattle.widget_defs.specs.Items.{caption_area}
use Rattle.widget_defs.specs.Looks.{text_setting}
use Rattle.widget_defs.specs.Laws.{CheckboxTextsStayWhole}

-- from a number on, so many numbers are so many
pub count-is : (x : ℤ) (n : ℕ) → count_between x ((x +ℤ pos n) -ℤ pos 1) ≡ n
count-is x n = ap nat_of (let e : (((x +ℤ pos n) -ℤ pos 1) -ℤ x) +ℤ pos 1 ≡ pos n = omega (arith, ints) in e)

pub width-is : (x y : ℤ) (width height : ℕ) → width_of (area_at x y width height) ≡ width
width-is x y width height = count-is x width

pub height-is : (x y : ℤ) (width height : ℕ) → height_of (area_at x y width height) ≡ height
height-is x y width height = count-is y height

pub captions-stay_whole : CheckboxTextsStayWhole
captions-stay_whole look content =
    let s = text_setting look None in
    let width = width_of (caption_area look content) in
    let is : width ≡ widest s (lines s look.text) = count-is _ (widest s (lines s look.text)) in
    wide_lines_end_at_newlines s look.text width (omega (arith, is))
