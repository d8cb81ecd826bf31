use Rattle.std.proofs.Common.{refl}
use Rattle.gui_base.specs.declared.props.Prop.TheVariants as prop
use Rattle.gui_layout.proofs.Ranged.{still_value}
use Rattle.gui_layout.proofs.looks.fill_values.Goals as goal

pub returns-clause-in_range : goal.returns-clause-in_range
returns-clause-in_range c prop.BgColor = still_value prop.BgColor c.value_by_row.result refl refl c.value_by_row.ensures.in_range
returns-clause-in_range c prop.BgOpa = still_value prop.BgOpa c.value_by_row-2.result refl refl c.value_by_row-2.ensures.in_range
returns-clause-in_range c prop.BorderColor = still_value prop.BorderColor c.value_by_row-3.result refl refl c.value_by_row-3.ensures.in_range
returns-clause-in_range c prop.BorderOpa = still_value prop.BorderOpa c.value_by_row-4.result refl refl c.value_by_row-4.ensures.in_range
returns-clause-in_range c prop.BorderWidth = still_value prop.BorderWidth c.value_by_row-5.result refl refl c.value_by_row-5.ensures.in_range
returns-clause-in_range c prop = refl
