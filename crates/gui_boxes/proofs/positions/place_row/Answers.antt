use Rattle.std.proofs.Common.{◌≡◌, ◌∙◌, refl, sym, ap, List}
use Rattle.layout_defs.specs.Flex.{TrackItem, Spot, spots}
use Rattle.layout_defs.specs.Boxes.{wraps}
use Rattle.layout_defs.specs.Solving.{row_slot, paired}
use Rattle.gui_flex.specs.Items.{item_of, items_of, spot_of, spots_of, placings_of}
use Rattle.gui_boxes.specs.Slots.{room_in}
use Rattle.gui_boxes.proofs.Lists.{paired-map}
use Rattle.gui_boxes.proofs.positions.place_row.Goals as goal

pub returns : goal.returns
returns c = record {
  items = λ h.
      let f = row_slot (room_in c.args.inside) in
      let inside = c.args.inside in
      let own = c.args.own.now in
      let at : spots_of c.place_all.new.items ≡ spots (placings_of own.places) (wraps own.flow) inside.width inside.height own.across.gap own.down.gap (items_of c.args.items.now) =
      c.place_all.ensures.spots ∙ rw (c.wraps.ensures, c.line_across.ensures.extent, c.line_across.ensures.gap, c.line_down.ensures.extent, c.line_down.ensures.gap) refl in
      sym (paired-map f item_of spot_of c.place_all.new.items)
      ∙ (ap (λ (items : List TrackItem). paired f items (spots_of c.place_all.new.items)) c.place_all.ensures.items ∙ ap (λ (all : List Spot). paired f (items_of c.args.items.now) all) at);
}
