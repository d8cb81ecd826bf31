-- The greatest value of each property.
use Rattle.std.specs.Prelude.{ℕ}
use Rattle.gui_base.specs.declared.props.Prop.{Prop}
use Rattle.gui_base.specs.Props.{values_of}
use Rattle.widget_defs.specs.Looks.{number_of}

abbrev pub most_of : Prop → ℕ
most_of prop = number_of (values_of prop).high
