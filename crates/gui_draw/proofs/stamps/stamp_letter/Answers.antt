use Rattle.gui_draw.proofs.Common.{◌≡◌, ◌∙◌, refl, ap, width_of, arith, ints, w64, to_z, of_z, rect_of}
use Rattle.gui_draw.proofs.Stamping.{inside_lines, letter_stamped, letter_unseen, seen_first, seen_is, seen_wide, area_in}
use Rattle.gui_draw.proofs.stamps.stamp_letter.Goals as goal

pub returns-in_default : goal.returns-in_default
returns-in_default g c = letter_unseen c.args.buf.now (rect_of c.args.brush.part) c.args.c c.args.cell.x c.args.cell.y c.args.brush.fg c.args.brush.opa _ c.in_default.ensures

pub area_of-part-requires-clause-left : goal.area_of-part-requires-clause-left
area_of-part-requires-clause-left g c =
    let x : to_z w64 (of_z w64 c.args.cell.x) ≡ c.args.cell.x = omega (arith, ints) in
    rw (rw x at c.span_at.ensures.from) (area_in (rect_of c.args.brush.part) c.args.cell.x c.requires.columns).0

pub area_of-part-requires-clause-right : goal.area_of-part-requires-clause-right
area_of-part-requires-clause-right g c =
    let x : to_z w64 (of_z w64 c.args.cell.x) ≡ c.args.cell.x = omega (arith, ints) in
    rw (rw x at c.span_at.ensures.to) (area_in (rect_of c.args.brush.part) c.args.cell.x c.requires.columns).1

pub stamp_lines-requires-clause-inside : goal.stamp_lines-requires-clause-inside
stamp_lines-requires-clause-inside g c =
    let x : to_z w64 (of_z w64 c.args.cell.x) ≡ c.args.cell.x = omega (arith, ints) in
    let is = seen_is (rect_of c.area_of-part.result) c.args.cell.x _ c.span_at.result c.in-Some.lines c.area_of-part.ensures x c.span_at.ensures.from c.span_at.ensures.to in
    rw is (inside_lines c.args.buf.now.area (rect_of c.args.brush.part) c.args.cell.x c.args.cell.y c.in-Some.lines c.requires.inside c.requires.columns c.in-Some.ensures)

pub stamp_lines-requires-clause-wide : goal.stamp_lines-requires-clause-wide
stamp_lines-requires-clause-wide g c =
    let x : to_z w64 (of_z w64 c.args.cell.x) ≡ c.args.cell.x = omega (arith, ints) in
    let is = seen_is (rect_of c.area_of-part.result) c.args.cell.x _ c.span_at.result c.in-Some.lines c.area_of-part.ensures x c.span_at.ensures.from c.span_at.ensures.to in
    ap width_of is ∙ seen_wide c.args.cell.x c.in-Some.lines

pub stamp_lines-requires-else-height-eq7-clause-inside : goal.stamp_lines-requires-else-height-eq7-clause-inside
stamp_lines-requires-else-height-eq7-clause-inside g c =
    let x : to_z w64 (of_z w64 c.args.cell.x) ≡ c.args.cell.x = omega (arith, ints) in
    let is = seen_is (rect_of c.area_of-part.result) c.args.cell.x _ c.span_at.result c.in-Some.lines c.area_of-part.ensures x c.span_at.ensures.from c.span_at.ensures.to in
    rw is (inside_lines c.args.buf.now.area (rect_of c.args.brush.part) c.args.cell.x c.args.cell.y c.in-Some.lines c.requires.inside c.requires.columns c.in-Some.ensures)

pub stamp_lines-requires-else-height-eq7-clause-wide : goal.stamp_lines-requires-else-height-eq7-clause-wide
stamp_lines-requires-else-height-eq7-clause-wide g c =
    let x : to_z w64 (of_z w64 c.args.cell.x) ≡ c.args.cell.x = omega (arith, ints) in
    let is = seen_is (rect_of c.area_of-part.result) c.args.cell.x _ c.span_at.result c.in-Some.lines c.area_of-part.ensures x c.span_at.ensures.from c.span_at.ensures.to in
    ap width_of is ∙ seen_wide c.args.cell.x c.in-Some.lines

pub returns-then-height-eq7 : goal.returns-then-height-eq7
returns-then-height-eq7 g c =
    let x : to_z w64 (of_z w64 c.args.cell.x) ≡ c.args.cell.x = omega (arith, ints) in
    let is = seen_is (rect_of c.area_of-part.result) c.args.cell.x _ c.span_at.result c.in-Some.lines c.area_of-part.ensures x c.span_at.ensures.from c.span_at.ensures.to in
    let fits = seen_first (rect_of c.args.brush.part) (rect_of c.area_of-part.result) c.args.cell.x c.args.cell.y c.in-Some.lines c.in-Some.ensures is in
    letter_stamped c.args.c c.requires.code c.args.buf.now c.stamp_lines.new.buf (rect_of c.args.brush.part) c.args.cell.x c.args.cell.y c.args.brush.fg c.args.brush.opa c.requires.columns _ _ c.in-Some.lines (rect_of c.area_of-part.result) 0 c.in-Some.ensures is
    (omega (arith, fits, c.height.ensures, c.if-height-eq7.true)) c.stamp_lines.ensures

pub returns-else-height-eq7 : goal.returns-else-height-eq7
returns-else-height-eq7 g c =
    let x : to_z w64 (of_z w64 c.args.cell.x) ≡ c.args.cell.x = omega (arith, ints) in
    let is = seen_is (rect_of c.area_of-part.result) c.args.cell.x _ c.span_at.result c.in-Some.lines c.area_of-part.ensures x c.span_at.ensures.from c.span_at.ensures.to in
    letter_stamped c.args.c c.requires.code c.args.buf.now c.stamp_lines-else-height-eq7.new.buf (rect_of c.args.brush.part) c.args.cell.x c.args.cell.y c.args.brush.fg c.args.brush.opa c.requires.columns _ _ c.in-Some.lines (rect_of c.area_of-part.result) c.in-Some.lines.first c.in-Some.ensures is refl
    c.stamp_lines-else-height-eq7.ensures
