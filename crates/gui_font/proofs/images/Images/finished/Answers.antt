use Rattle.std.proofs.Common.{sym, arith, length, map}
use Rattle.gui_font.specs.Stores.{image_in}
use Rattle.gui_font.proofs.Storing.{member_inside, finished_is}
use Rattle.gui_font.proofs.images.Images.finished.Goals as goal

pub returns : goal.returns
returns c =
    let i = c.self.inside in
    let s = c.in_ok-slot.slot in
    let inside = member_inside i.slots.items (length i.bytes.items) s c.self.invariant.laid (rw c.as_slice.ensures.value at c.in_ok-slot.ensures.member) in
    rw (← c.self.view_is, c.is_whole.ensures) (sym (finished_is (map (image_in i.bytes.items) i.slots.items) i.bytes.items c.args.id s (rw c.as_slice.ensures.value at (c.in_ok-slot.ensures.image i.bytes.items)) (omega arith)))
