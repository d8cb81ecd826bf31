use Rattle.gui_draw.proofs.Common.{◌≡◌, rules, FitsSigned, w8, w64, to_z-of_z, arith, ints}
use Rattle.gui_draw.proofs.glyphs.lines_of.Goals as goal

pub returns : goal.returns
returns c =
    let cell : FitsSigned w64 c.args.cell.y = search rules in
    let offset : FitsSigned w8 c.args.shape.oy = search rules in
    let low : FitsSigned w64 c.from-low.result = search rules in
    let high : FitsSigned w64 c.from-high.result = search rules in
    let first : c.from-low.result ≡ c.args.part.y1 = omega (arith, ints, c.from-low.ensures) in
    let last : c.from-high.result ≡ c.args.part.y2 = omega (arith, ints, c.from-high.ensures) in
    rw (to_z-of_z w64 c.from-low.result low, to_z-of_z w64 c.from-high.result high, to_z-of_z w64 c.args.cell.y cell, to_z-of_z w8 c.args.shape.oy offset, first, last) at c.seen_span.ensures
