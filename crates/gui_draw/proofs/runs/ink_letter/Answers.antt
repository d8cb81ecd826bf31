use Rattle.gui_draw.proofs.Common.{◌≡◌, ◌∙◌, sym, arith, ints, w64, to_z, of_z, rect_of}
use Rattle.gui_draw.proofs.Lettering.{letter_drawn, letter_none}
use Rattle.gui_draw.proofs.runs.ink_letter.Goals as goal

pub stamp_letter-requires-clause-columns : goal.stamp_letter-requires-clause-columns
stamp_letter-requires-clause-columns g c =
    let x : to_z w64 (of_z w64 c.args.cell.x) ≡ c.args.cell.x = omega (arith, ints) in
    sym (rw x at c.has_columns.ensures) ∙ c.if-has_columns.true

pub returns-then-has_columns : goal.returns-then-has_columns
returns-then-has_columns g c = c.stamp_letter.ensures

pub returns : goal.returns
returns g c =
    letter_drawn c.args.c c.rows_of-rows.result c.rows_of-rows.ensures (sym c.has_built_in.ensures ∙ c.if-not-has_built_in.false) _ _ (rect_of c.args.brush.part) c.args.cell.x c.args.cell.y c.args.brush.fg c.args.brush.opa _ _ c.ink_glyph.ensures

pub returns-then-not-has_built_in : goal.returns-then-not-has_built_in
returns-then-not-has_built_in g c = letter_none _ (rect_of c.args.brush.part) c.args.c c.args.cell.x c.args.cell.y c.args.brush.fg c.args.brush.opa _ (sym c.has_built_in.ensures ∙ c.if-not-has_built_in.true)
