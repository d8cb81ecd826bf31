-- The value of a slider at a column, as the code finds it.
use Rattle.std.specs.Prelude.{ℕ, ◌-◌, nat_le, if◌then◌else◌, ℤ, pos, ◌+ℤ◌, ◌-ℤ◌, ◌*ℤ◌, Some, None}
use Rattle.std.specs.Prelude.{option_map}
use Rattle.std.specs.Int.{int_div_euclid}
use Rattle.std.specs.declared.option.Option.{Option}
use Rattle.gui_base.specs.Area.{Rect, width_of}
use Rattle.gui_base.specs.declared.Handle.{Handle}
use Rattle.run_defs.specs.Pointing.{content, value_at}
use Rattle.run_defs.specs.Reactions.{is_slider}
use Rattle.scene_defs.specs.Row.{brought_in}
use Rattle.scene_defs.specs.Scene.{Scene, row_at}
use Rattle.scene_defs.specs.declared.Row.{Row}

-- the first column of an area, and how many there are
abbrev pub columns_of : Rect → ℤ × ℕ
columns_of area = (area.x1, width_of area)

-- the value that a slider of this row and so many columns has at x
abbrev pub value_along : Row → ℤ → ℕ → ℤ → ℤ
value_along row first count x =
    if nat_le count 1 then row.min
    else row.min
    +ℤ int_div_euclid ((row.max -ℤ row.min) *ℤ brought_in (pos 0) (pos (count - 1)) (x -ℤ first))
    (pos (count - 1))

abbrev pub slid_in : Option Row → Option Rect → ℤ → Option ℤ
slid_in None area x = None
slid_in (Some row) area x =
    if is_slider row.kind then option_map (λ a. value_at row a x) area else None

-- the value that a slider has at x, where it is one that is there
abbrev pub slid_value : Scene → ℤ → Handle → Option ℤ
slid_value scene x h = slid_in (row_at scene h.0) (content scene h.0) x
