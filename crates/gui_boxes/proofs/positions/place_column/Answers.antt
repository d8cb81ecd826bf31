use Rattle.std.proofs.Common.{◌≡◌, ◌∙◌, refl, sym, ap, List}
use Rattle.layout_defs.specs.Flex.{TrackItem, Spot, shared, spots}
use Rattle.layout_defs.specs.Boxes.{wraps}
use Rattle.layout_defs.specs.Solving.{column_slot, paired}
use Rattle.gui_flex.specs.Items.{item_of, items_of, spot_of, spots_of, placings_of}
use Rattle.gui_boxes.specs.Slots.{room_in}
use Rattle.gui_boxes.proofs.Lists.{paired-map}
use Rattle.gui_boxes.proofs.positions.place_column.Goals as goal

pub returns : goal.returns
returns c = record {
  items = λ h.
      let f = column_slot (room_in c.args.inside) in
      let inside = c.args.inside in
      let own = c.args.own.now in
      let all : items_of c.share_all.new.items ≡ shared (wraps own.flow) inside.height own.down.gap (items_of c.args.items.now) =
      c.share_all.ensures.items ∙ rw (c.wraps.ensures, c.line_down-down.ensures.extent, c.line_down-down.ensures.gap) refl in
      let at : spots_of c.place_all.new.items ≡ spots (placings_of own.places) (wraps own.flow) inside.height inside.width own.down.gap own.across.gap (items_of c.share_all.new.items) =
      c.place_all.ensures.spots ∙ rw (c.wraps-2.ensures, c.line_down-down.ensures.extent, c.line_down-down.ensures.gap, c.line_across.ensures.extent, c.line_across.ensures.gap) refl in
      sym (paired-map f item_of spot_of c.place_all.new.items)
      ∙ (ap (λ (items : List TrackItem). paired f items (spots_of c.place_all.new.items)) c.place_all.ensures.items
      ∙ (ap (λ (ss : List Spot). paired f (items_of c.share_all.new.items) ss) at
      ∙ ap (λ (items : List TrackItem). paired f items (spots (placings_of own.places) (wraps own.flow) inside.height inside.width own.down.gap own.across.gap items)) all));
}
