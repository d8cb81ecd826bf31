use Rattle.std.proofs.Common.{◌≡◌, ◌∙◌, sym, refl, arith, ◌+◌, length, None}
use Rattle.std.specs.Prelude.{position}
use Rattle.std.specs.Vec.{with_items}
use Rattle.std.proofs.lemmas.List.{with_items_is}
use Rattle.gui_font.specs.Stores.{is_image, written}
use Rattle.gui_font.proofs.Storing.{Taken, taken, stored_given, images_with_row, absent_takes}
use Rattle.gui_font.proofs.images.Images.put_row.Goals as goal
use Rattle.gui_font.proofs.images.Images.put_row.Goals.{After-self-2-1}

pub unreachable-requires : goal.unreachable-requires
unreachable-requires c =
    let i = c.self.inside in
    let none : position (is_image c.args.id) i.slots.items ≡ None = rw c.as_slice.ensures.value at (sym c.in_default.ensures) in
    absent_takes i.slots.items i.bytes.items c.args.id c.args.y (length c.args.bytes.now) none (rw (← c.self.view_is) at c.requires)

pub overflow_add-at : goal.overflow_add-at
overflow_add-at c =
    let i = c.self.inside in
    let t = taken i.index i.slots.items i.bytes.items c.args.bytes.now _ c.args.id c.args.y c.in-Some.place c.index-slot.result.now c.self.invariant (rw (← c.self.view_is) at c.requires)
    (sym (rw c.as_slice.ensures.value at c.in-Some.ensures)) c.index-slot.ensures in
    let inside = t.inside in
    let small = i.bytes.small in
    let ok = i.bytes.ok in
    rw (c.row_length.ensures.value, t.at) (omega arith)

pub overflow_add-slot : goal.overflow_add-slot
overflow_add-slot c =
    let i = c.self.inside in
    let t = taken i.index i.slots.items i.bytes.items c.args.bytes.now _ c.args.id c.args.y c.in-Some.place c.index-slot.result.now c.self.invariant (rw (← c.self.view_is) at c.requires)
    (sym (rw c.as_slice.ensures.value at c.in-Some.ensures)) c.index-slot.ensures in
    let inside = t.inside in
    let small = i.bytes.small in
    let ok = i.bytes.ok in
    omega arith

pub write_bytes-requires : goal.write_bytes-requires
write_bytes-requires c =
    let i = c.self.inside in
    let t = taken i.index i.slots.items i.bytes.items c.args.bytes.now _ c.args.id c.args.y c.in-Some.place c.index-slot.result.now c.self.invariant (rw (← c.self.view_is) at c.requires)
    (sym (rw c.as_slice.ensures.value at c.in-Some.ensures)) c.index-slot.ensures in
    rw (c.as_mut_slice.ensures.value, c.row_length.ensures.value, t.at) t.inside

facts : (c : After-self-2-1) → Taken c.self.inside.slots.items c.self.inside.bytes.items c.args.bytes.now c.args.id c.args.y c.in-Some.place c.index-slot.result.now
facts c =
    let i = c.self.inside in
    taken i.index i.slots.items i.bytes.items c.args.bytes.now _ c.args.id c.args.y c.in-Some.place c.index-slot.result.now c.self.invariant (rw (← c.self.view_is) at c.requires)
    (sym (rw c.as_slice.ensures.value at c.in-Some.ensures)) c.index-slot.ensures

bytes_are : (c : After-self-2-1) → (with_items c.self.inside.bytes c.write_bytes.new.bytes).items ≡ written c.self.inside.bytes.items (c.index-slot.result.now.start + c.index-slot.result.now.given) c.args.bytes.now
bytes_are c =
    let e : c.write_bytes.new.bytes ≡ written c.self.inside.bytes.items (c.index-slot.result.now.start + c.index-slot.result.now.given) c.args.bytes.now = c.write_bytes.ensures ∙ rw (c.as_mut_slice.ensures.value, c.row_length.ensures.value, (facts c).at) refl in
    with_items_is c.self.inside.bytes c.write_bytes.new.bytes (omega arith) ∙ e

pub invariant_of-self : goal.invariant_of-self
invariant_of-self c =
    let i = c.self.inside in
    rw (bytes_are c) (stored_given i.index i.slots.items i.bytes.items c.args.bytes.now _ c.args.id c.args.y c.in-Some.place c.index-slot.result.now c.self.invariant (facts c) c.index-slot.ensures)

pub returns : goal.returns
returns c =
    let i = c.self.inside in
    rw (← c.self.view_is, bytes_are c, ← images_with_row i.index i.slots.items i.bytes.items c.args.bytes.now _ c.args.id c.args.y c.in-Some.place c.index-slot.result.now c.self.invariant (facts c) c.index-slot.ensures) refl
