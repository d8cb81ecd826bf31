use Rattle.std.proofs.Common.{◌∙◌, refl, arith, map}
use Rattle.gui_font.specs.Stores.{image_in}
use Rattle.gui_font.proofs.Storing.{Seen, seen}
use Rattle.gui_font.proofs.images.Images.texel.Goals as goal
use Rattle.gui_font.proofs.images.Images.texel.Goals.{In-Some}

facts : (c : In-Some) → Seen (map (image_in c.self.inside.bytes.items) c.self.inside.slots.items) c.self.inside.bytes.items c.args.id c.in-Some.slot c.args.x c.args.y
facts c =
    let i = c.self.inside in
    seen i.slots.items i.bytes.items c.args.id c.in-Some.slot c.args.x c.args.y c.self.invariant.laid (rw c.as_slice.ensures.value at (c.in-Some.ensures.image i.bytes.items)) (rw c.as_slice.ensures.value at c.in-Some.ensures.member)
    (rw (← c.self.view_is) at c.requires.finished) (rw (← c.self.view_is) at c.requires.inside)

pub overflow_add-row : goal.overflow_add-row
overflow_add-row c =
    let f = facts (goal.at.overflow_add-row c).In-Some in
    let whole = f.whole in
    let fits = f.fits in
    let inside = f.inside in
    rw c.row_length.ensures.value (omega arith)

pub overflow_add-row-2 : goal.overflow_add-row-2
overflow_add-row-2 c =
    let f = facts (goal.at.overflow_add-row-2 c).In-Some in
    let whole = f.whole in
    let fits = f.fits in
    let inside = f.inside in
    rw (c.row_length.ensures.value, c.texel_size.ensures.value) (omega arith)

pub texel_in-requires : goal.texel_in-requires
texel_in-requires c =
    let f = facts (goal.at.texel_in-requires c).In-Some in
    let whole = f.whole in
    let fits = f.fits in
    let inside = f.inside in
    rw (c.as_slice-2.ensures.value, c.row_length.ensures.value, c.texel_size.ensures.value) (omega arith)

pub returns : goal.returns
returns c =
    let f = facts (goal.at.returns c).In-Some in
    rw (← c.self.view_is, ← f.texel) (c.texel_in.ensures ∙ rw (c.as_slice-2.ensures.value, c.row_length.ensures.value, c.texel_size.ensures.value) refl)
