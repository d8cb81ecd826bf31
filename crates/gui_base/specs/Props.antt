-- What a property is by itself: the values that it may have, its value where nothing sets it, and whether it
-- is inherited.
use Rattle.std.specs.Prelude.{Bool, true, false, ℤ, pos}
use Rattle.gui_base.specs.declared.intervals.Interval.{Interval}
use Rattle.gui_base.specs.declared.intervals.TheConstants.{COLOR, OPACITY, BORDER, PAD, TEXT_SPACE}
use Rattle.gui_base.specs.declared.intervals.TheConstants.{TEXT_FONT, TEXT_ALIGN as ALIGNMENT}
use Rattle.gui_base.specs.Intervals.{is_within}
use Rattle.gui_base.specs.declared.props.Prop.{Prop}
use Rattle.gui_base.specs.declared.props.Prop.TheVariants.{BgColor, BgOpa, BorderColor, BorderOpa}
use Rattle.gui_base.specs.declared.props.Prop.TheVariants.{BorderWidth, PadTop, PadBottom, PadLeft}
use Rattle.gui_base.specs.declared.props.Prop.TheVariants.{PadRight, PadRow, PadColumn, ImgRecolor}
use Rattle.gui_base.specs.declared.props.Prop.TheVariants.{ImgOpa, TextColor, TextOpa, TextFont}
use Rattle.gui_base.specs.declared.props.Prop.TheVariants.{TextAlign, TextLetterSpace, TextLineSpace}

-- the interval of its values
abbrev pub values_of : Prop → Interval
values_of BgColor = COLOR
values_of BgOpa = OPACITY
values_of BorderColor = COLOR
values_of BorderOpa = OPACITY
values_of BorderWidth = BORDER
values_of PadTop = PAD
values_of PadBottom = PAD
values_of PadLeft = PAD
values_of PadRight = PAD
values_of PadRow = PAD
values_of PadColumn = PAD
values_of ImgRecolor = COLOR
values_of ImgOpa = OPACITY
values_of TextColor = COLOR
values_of TextOpa = OPACITY
values_of TextFont = TEXT_FONT
values_of TextAlign = ALIGNMENT
values_of TextLetterSpace = TEXT_SPACE
values_of TextLineSpace = TEXT_SPACE

-- whether it may have a value
abbrev pub is_value : Prop → ℤ → Bool
is_value prop value = is_within (values_of prop) value

-- white, no fill, black, and as opaque as it goes
abbrev pub default_of : Prop → ℤ
default_of BgColor = pos 16777215
default_of BorderOpa = pos 255
default_of ImgOpa = pos 255
default_of TextOpa = pos 255
default_of prop = pos 0

-- whether the object's own part, and then those above it, are asked where it is not set
abbrev pub inherits : Prop → Bool
inherits TextColor = true
inherits TextOpa = true
inherits TextFont = true
inherits TextAlign = true
inherits TextLetterSpace = true
inherits TextLineSpace = true
inherits prop = false
