use Rattle.gui_draw.proofs.Common.{sym, inl, inr, arith, rect_of}
use Rattle.gui_draw.proofs.Lines.{part_inside, part_outside}
use Rattle.gui_draw.proofs.Picturing.{picture_none, picture_some, picture_beyond, texels_there, first_inside, part_after}
use Rattle.gui_draw.proofs.texels.picture.Goals as goal

pub returns-in_default : goal.returns-in_default
returns-in_default g c = picture_none _ _ (rect_of c.args.clip) (rect_of c.args.area) c.args.images.now.images c.args.id c.args.recolor c.args.opa (sym c.in_default.ensures.size)

pub returns-in_default-part_of : goal.returns-in_default-part_of
returns-in_default-part_of g c = part_outside _ (rect_of c.args.clip) (rect_of c.args.area) _ _ c.in_default-part_of.ensures

pub columns_before-column-requires : goal.columns_before-column-requires
columns_before-column-requires g c = (part_after c.args.buf.now.area (rect_of c.args.clip) (rect_of c.args.area) (rect_of c.in-Some-part_of.part) c.in-Some-part_of.ensures).0

pub lines_before-row-requires : goal.lines_before-row-requires
lines_before-row-requires g c = (part_after c.args.buf.now.area (rect_of c.args.clip) (rect_of c.args.area) (rect_of c.in-Some-part_of.part) c.in-Some-part_of.ensures).1

pub returns-in_default-count_left : goal.returns-in_default-count_left
returns-in_default-count_left g c =
    let is = c.in-Some-part_of.ensures in
    part_inside _ _ (rect_of c.args.clip) (rect_of c.args.area) (rect_of c.in-Some-part_of.part) _ _ _ is
    (picture_beyond (rect_of c.args.area) (rect_of c.in-Some-part_of.part) c.args.images.now.images c.args.id c.in-Some.bitmap c.args.recolor c.args.opa _ _
    (record { size = sym c.in-Some.ensures.size; whole = c.in-Some.ensures.whole; texels = c.in-Some.ensures.texels })
    (part_after c.args.buf.now.area (rect_of c.args.clip) (rect_of c.args.area) (rect_of c.in-Some-part_of.part) is) c.columns_before-column.ensures c.lines_before-row.ensures _ _ (inl c.in_default-count_left.ensures))

pub returns-in_default-count_left-2 : goal.returns-in_default-count_left-2
returns-in_default-count_left-2 g c =
    let is = c.in-Some-part_of.ensures in
    part_inside _ _ (rect_of c.args.clip) (rect_of c.args.area) (rect_of c.in-Some-part_of.part) _ _ _ is
    (picture_beyond (rect_of c.args.area) (rect_of c.in-Some-part_of.part) c.args.images.now.images c.args.id c.in-Some.bitmap c.args.recolor c.args.opa _ _
    (record { size = sym c.in-Some.ensures.size; whole = c.in-Some.ensures.whole; texels = c.in-Some.ensures.texels })
    (part_after c.args.buf.now.area (rect_of c.args.clip) (rect_of c.args.area) (rect_of c.in-Some-part_of.part) is) c.columns_before-column.ensures c.lines_before-row.ensures _ _ (inr c.in_default-count_left-2.ensures))

pub mix_part-requires-clause-inside : goal.mix_part-requires-clause-inside
mix_part-requires-clause-inside g c =
    let columns = c.in-Some-count_left.ensures in
    let lines = c.in-Some-count_left-2.ensures in
    rw c.first_of-seen.ensures (first_inside c.args.buf.now.area (rect_of c.in-Some-part_of.part) _ _ c.in-Some-part_of.ensures.inside (omega (arith, columns.0, columns.1)) (omega (arith, lines.0, lines.1)))

pub mix_part-requires-clause-texels : goal.mix_part-requires-clause-texels
mix_part-requires-clause-texels g c =
    let is = c.in-Some-part_of.ensures in
    let columns = c.in-Some-count_left.ensures in
    let lines = c.in-Some-count_left-2.ensures in
    rw (c.first_of-seen.ensures, columns.1, lines.1)
    (texels_there (rect_of c.args.area) (rect_of c.in-Some-part_of.part) c.args.images.now.images c.args.id c.in-Some.bitmap c.args.recolor c.args.opa _ _
    (record { size = sym c.in-Some.ensures.size; whole = c.in-Some.ensures.whole; texels = c.in-Some.ensures.texels })
    (part_after c.args.buf.now.area (rect_of c.args.clip) (rect_of c.args.area) (rect_of c.in-Some-part_of.part) is) c.columns_before-column.ensures c.lines_before-row.ensures (columns.0, lines.0) (columns.2, lines.2))

pub returns : goal.returns
returns g c =
    let is = c.in-Some-part_of.ensures in
    let columns = c.in-Some-count_left.ensures in
    let lines = c.in-Some-count_left-2.ensures in
    part_inside _ _ (rect_of c.args.clip) (rect_of c.args.area) (rect_of c.in-Some-part_of.part) _ _ _ is
    (picture_some (rect_of c.args.area) (rect_of c.in-Some-part_of.part) c.args.images.now.images c.args.id c.in-Some.bitmap c.args.recolor c.args.opa _ _
    (record { size = sym c.in-Some.ensures.size; whole = c.in-Some.ensures.whole; texels = c.in-Some.ensures.texels })
    (part_after c.args.buf.now.area (rect_of c.args.clip) (rect_of c.args.area) (rect_of c.in-Some-part_of.part) is) c.columns_before-column.ensures c.lines_before-row.ensures _ _ _ _ columns.0 lines.0
    (rw (c.first_of-seen.ensures, columns.1, lines.1) at c.mix_part.ensures))
