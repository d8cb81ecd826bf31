use Rattle.std.proofs.Common.{sym, refl}
use Rattle.gui_base.specs.declared.props.Prop.TheVariants as prop
use Rattle.gui_layout.proofs.Ranged.{kept_value, still_value}
use Rattle.gui_layout.proofs.looks.values.Goals as goal

pub returns-clause-values : goal.returns-clause-values
returns-clause-values c prop.BgColor = kept_value prop.BgColor _ _ refl refl c.value_by_row.ensures.in_range (sym c.value_by_row.ensures.value)
returns-clause-values c prop.BgOpa = kept_value prop.BgOpa _ _ refl refl c.value_by_row-2.ensures.in_range (sym c.value_by_row-2.ensures.value)
returns-clause-values c prop.BorderColor = kept_value prop.BorderColor _ _ refl refl c.value_by_row-3.ensures.in_range (sym c.value_by_row-3.ensures.value)
returns-clause-values c prop.BorderOpa = kept_value prop.BorderOpa _ _ refl refl c.value_by_row-4.ensures.in_range (sym c.value_by_row-4.ensures.value)
returns-clause-values c prop.BorderWidth = kept_value prop.BorderWidth _ _ refl refl c.value_by_row-5.ensures.in_range (sym c.value_by_row-5.ensures.value)
returns-clause-values c prop.PadTop = kept_value prop.PadTop _ _ refl refl c.value_by_row-6.ensures.in_range (sym c.value_by_row-6.ensures.value)
returns-clause-values c prop.PadBottom = kept_value prop.PadBottom _ _ refl refl c.value_by_row-7.ensures.in_range (sym c.value_by_row-7.ensures.value)
returns-clause-values c prop.PadLeft = kept_value prop.PadLeft _ _ refl refl c.value_by_row-8.ensures.in_range (sym c.value_by_row-8.ensures.value)
returns-clause-values c prop.PadRight = kept_value prop.PadRight _ _ refl refl c.value_by_row-9.ensures.in_range (sym c.value_by_row-9.ensures.value)
returns-clause-values c prop.PadRow = kept_value prop.PadRow _ _ refl refl c.value_by_row-10.ensures.in_range (sym c.value_by_row-10.ensures.value)
returns-clause-values c prop.PadColumn = kept_value prop.PadColumn _ _ refl refl c.value_by_row-11.ensures.in_range (sym c.value_by_row-11.ensures.value)
returns-clause-values c prop.ImgRecolor = kept_value prop.ImgRecolor _ _ refl refl c.value_by_row-12.ensures.in_range (sym c.value_by_row-12.ensures.value)
returns-clause-values c prop.ImgOpa = kept_value prop.ImgOpa _ _ refl refl c.value_by_row-13.ensures.in_range (sym c.value_by_row-13.ensures.value)
returns-clause-values c prop.TextColor = kept_value prop.TextColor _ _ refl refl c.value_by_row-14.ensures.in_range (sym c.value_by_row-14.ensures.value)
returns-clause-values c prop.TextOpa = kept_value prop.TextOpa _ _ refl refl c.value_by_row-15.ensures.in_range (sym c.value_by_row-15.ensures.value)
returns-clause-values c prop.TextFont = kept_value prop.TextFont _ _ refl refl c.value_by_row-16.ensures.in_range (sym c.value_by_row-16.ensures.value)
returns-clause-values c prop.TextAlign = kept_value prop.TextAlign _ _ refl refl c.value_by_row-17.ensures.in_range (sym c.value_by_row-17.ensures.value)
returns-clause-values c prop.TextLetterSpace = kept_value prop.TextLetterSpace _ _ refl refl c.value_by_row-18.ensures.in_range (sym c.value_by_row-18.ensures.value)
returns-clause-values c prop.TextLineSpace = kept_value prop.TextLineSpace _ _ refl refl c.value_by_row-19.ensures.in_range (sym c.value_by_row-19.ensures.value)

pub returns-clause-in_range : goal.returns-clause-in_range
returns-clause-in_range c prop.BgColor = still_value prop.BgColor c.value_by_row.result refl refl c.value_by_row.ensures.in_range
returns-clause-in_range c prop.BgOpa = still_value prop.BgOpa c.value_by_row-2.result refl refl c.value_by_row-2.ensures.in_range
returns-clause-in_range c prop.BorderColor = still_value prop.BorderColor c.value_by_row-3.result refl refl c.value_by_row-3.ensures.in_range
returns-clause-in_range c prop.BorderOpa = still_value prop.BorderOpa c.value_by_row-4.result refl refl c.value_by_row-4.ensures.in_range
returns-clause-in_range c prop.BorderWidth = still_value prop.BorderWidth c.value_by_row-5.result refl refl c.value_by_row-5.ensures.in_range
returns-clause-in_range c prop.PadTop = still_value prop.PadTop c.value_by_row-6.result refl refl c.value_by_row-6.ensures.in_range
returns-clause-in_range c prop.PadBottom = still_value prop.PadBottom c.value_by_row-7.result refl refl c.value_by_row-7.ensures.in_range
returns-clause-in_range c prop.PadLeft = still_value prop.PadLeft c.value_by_row-8.result refl refl c.value_by_row-8.ensures.in_range
returns-clause-in_range c prop.PadRight = still_value prop.PadRight c.value_by_row-9.result refl refl c.value_by_row-9.ensures.in_range
returns-clause-in_range c prop.PadRow = still_value prop.PadRow c.value_by_row-10.result refl refl c.value_by_row-10.ensures.in_range
returns-clause-in_range c prop.PadColumn = still_value prop.PadColumn c.value_by_row-11.result refl refl c.value_by_row-11.ensures.in_range
returns-clause-in_range c prop.ImgRecolor = still_value prop.ImgRecolor c.value_by_row-12.result refl refl c.value_by_row-12.ensures.in_range
returns-clause-in_range c prop.ImgOpa = still_value prop.ImgOpa c.value_by_row-13.result refl refl c.value_by_row-13.ensures.in_range
returns-clause-in_range c prop.TextColor = still_value prop.TextColor c.value_by_row-14.result refl refl c.value_by_row-14.ensures.in_range
returns-clause-in_range c prop.TextOpa = still_value prop.TextOpa c.value_by_row-15.result refl refl c.value_by_row-15.ensures.in_range
returns-clause-in_range c prop.TextFont = still_value prop.TextFont c.value_by_row-16.result refl refl c.value_by_row-16.ensures.in_range
returns-clause-in_range c prop.TextAlign = still_value prop.TextAlign c.value_by_row-17.result refl refl c.value_by_row-17.ensures.in_range
returns-clause-in_range c prop.TextLetterSpace = still_value prop.TextLetterSpace c.value_by_row-18.result refl refl c.value_by_row-18.ensures.in_range
returns-clause-in_range c prop.TextLineSpace = still_value prop.TextLineSpace c.value_by_row-19.result refl refl c.value_by_row-19.ensures.in_range
