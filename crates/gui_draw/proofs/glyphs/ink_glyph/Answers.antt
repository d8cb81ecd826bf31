use Rattle.gui_draw.proofs.Common.{arith, sym, rect_of}
use Rattle.gui_draw.proofs.Steps.{draws_none, draws_same}
use Rattle.gui_draw.proofs.Seeing.{glyph_none, glyph_some, inside_seen, box_seen, either_none}
use Rattle.gui_draw.proofs.glyphs.ink_glyph.Goals as goal

pub returns-in_default : goal.returns-in_default
returns-in_default g c =
    draws_none c.args.buf.now c.args.steps.now _ (λ x y i. glyph_none (rect_of c.args.brush.part) c.args.height c.args.bits.shape c.args.bits.rows.now c.args.cell.x c.args.cell.y x y (record { color = c.args.brush.fg; opa = c.args.brush.opa }) (either_none.0 _ _ (c.in_default.ensures x)))

pub returns-in_default-lines_of : goal.returns-in_default-lines_of
returns-in_default-lines_of g c =
    draws_none c.args.buf.now c.args.steps.now _ (λ x y i. glyph_none (rect_of c.args.brush.part) c.args.height c.args.bits.shape c.args.bits.rows.now c.args.cell.x c.args.cell.y x y (record { color = c.args.brush.fg; opa = c.args.brush.opa }) (either_none.1 _ _ (c.in_default-lines_of.ensures y)))

pub ink_part-requires-clause-inside : goal.ink_part-requires-clause-inside
ink_part-requires-clause-inside g c =
    rw c.area_of-part.ensures (inside_seen c.args.buf.now.area (rect_of c.args.brush.part) c.in-Some.columns c.in-Some-lines_of.lines c.args.bits.shape c.args.cell.x c.args.cell.y c.args.height c.requires.inside c.in-Some.ensures c.in-Some-lines_of.ensures)

pub ink_part-requires-clause-bits : goal.ink_part-requires-clause-bits
ink_part-requires-clause-bits g c =
    rw (c.area_of-part.ensures, c.from.ensures) (box_seen (rect_of c.args.brush.part) c.in-Some.columns c.in-Some-lines_of.lines c.args.bits.shape c.args.bits.rows c.args.cell.x c.args.cell.y c.args.height (omega arith) (omega arith) c.requires.bytes c.in-Some.ensures c.in-Some-lines_of.ensures)

pub returns : goal.returns
returns g c =
    draws_same c.args.buf.now c.ink_part.new.buf _ _ _ _ (λ x y i. sym (glyph_some (rect_of c.args.brush.part) c.args.height c.args.bits.shape c.args.bits.rows c.args.cell.x c.args.cell.y x y (record { color = c.args.brush.fg; opa = c.args.brush.opa }) c.in-Some.columns c.in-Some-lines_of.lines c.in-Some.ensures c.in-Some-lines_of.ensures))
    (rw (c.area_of-part.ensures, c.from.ensures) at c.ink_part.ensures)
