use Rattle.std.proofs.Common.{◌∙◌, sym, refl, arith, length, map}
use Rattle.gui_font.specs.Stores.{image_in}
use Rattle.gui_font.proofs.Storing.{member_inside, size_is, slot_texels}
use Rattle.gui_font.proofs.images.Images.bitmap.Goals as goal

pub returns-then-not-is_whole-clause-size : goal.returns-then-not-is_whole-clause-size
returns-then-not-is_whole-clause-size c =
    let i = c.self.inside in
    let s = c.in_ok-slot.slot in
    let inside = member_inside i.slots.items (length i.bytes.items) s c.self.invariant.laid (rw c.as_slice.ensures.value at c.in_ok-slot.ensures.member) in
    rw (← c.self.view_is) (sym (size_is (map (image_in i.bytes.items) i.slots.items) i.bytes.items c.args.id s (rw c.as_slice.ensures.value at (c.in_ok-slot.ensures.image i.bytes.items)) (omega arith) ∙ rw (sym c.is_whole.ensures ∙ c.if-not-is_whole.true) refl))

pub overflow_add-result : goal.overflow_add-result
overflow_add-result c =
    let i = c.self.inside in
    let inside = member_inside i.slots.items (length i.bytes.items) c.in_ok-slot.slot c.self.invariant.laid (rw c.as_slice.ensures.value at c.in_ok-slot.ensures.member) in
    omega (arith, inside.0, inside.1, c.as_slice-2.ensures.len)

pub slice_bounds-result-end : goal.slice_bounds-result-end
slice_bounds-result-end c =
    let i = c.self.inside in
    let inside = member_inside i.slots.items (length i.bytes.items) c.in_ok-slot.slot c.self.invariant.laid (rw c.as_slice.ensures.value at c.in_ok-slot.ensures.member) in
    rw c.as_slice-2.ensures.value (omega (arith, inside.0, inside.1))

pub returns-clause-texels : goal.returns-clause-texels
returns-clause-texels c =
    let i = c.self.inside in
    rw (← c.self.view_is, c.as_slice-2.ensures.value) (slot_texels (map (image_in i.bytes.items) i.slots.items) i.bytes.items c.args.id c.in_ok-slot.slot (rw c.as_slice.ensures.value at (c.in_ok-slot.ensures.image i.bytes.items)))
