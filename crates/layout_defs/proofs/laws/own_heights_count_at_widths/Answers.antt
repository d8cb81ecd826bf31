use Rattle.layout_defs.proofs.OwnHeights.{natural_widths_ask_none, widths_ask_none, natural_heights_ask_at_widths, slots_ask_none, places_ask_at_widths}
use Rattle.layout_defs.proofs.laws.own_heights_count_at_widths.Goals as goal

pub returns : goal.returns
returns c = record {
  natural_widths = natural_widths_ask_none;
  widths = widths_ask_none;
  natural_heights = natural_heights_ask_at_widths;
  slots = slots_ask_none;
  places = places_ask_at_widths;
}
