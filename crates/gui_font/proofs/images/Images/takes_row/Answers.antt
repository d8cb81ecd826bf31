use Rattle.std.proofs.Common.{◌∙◌, sym, arith, length, map}
use Rattle.gui_font.specs.Stores.{image_in}
use Rattle.gui_font.proofs.Storing.{member_inside, takes_is}
use Rattle.gui_font.proofs.images.Images.takes_row.Goals as goal

pub returns-in-Some : goal.returns-in-Some
returns-in-Some c =
    let i = c.self.inside in
    let s = c.in-Some.slot in
    let inside = member_inside i.slots.items (length i.bytes.items) s c.self.invariant.laid (rw c.as_slice.ensures.value at c.in-Some.ensures.member) in
    rw (← c.self.view_is) (c.is_next.ensures ∙ sym (takes_is (map (image_in i.bytes.items) i.slots.items) i.bytes.items c.args.id s (rw c.as_slice.ensures.value at (c.in-Some.ensures.image i.bytes.items)) (omega arith) c.args.y c.args.len))
