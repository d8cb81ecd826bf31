use Rattle.gui_draw.proofs.Common.{rect_of, face_in}
use Rattle.gui_draw.proofs.Steps.{draws_none}
use Rattle.text_defs.specs.Fonts.{cell_of}
use Rattle.gui_draw.proofs.Running.{empty_coat, cell_drawn}
use Rattle.gui_font.proofs.Slots.{face_zero}
use Rattle.gui_draw.proofs.runs.ink_cell.Goals as goal

pub returns-in-Some : goal.returns-in-Some
returns-in-Some g c =
    rw (← c.tick.ensures) (cell_drawn _ _ (rect_of c.args.brush.part) (face_in c.args.lettering.fonts.now c.args.lettering.look.font) c.args.c (cell_of (record { code = 0; shape = c.in-Some.bits.shape; rows = c.in-Some.bits.rows.now })) c.height.result c.args.cell.x c.args.cell.y c.args.brush.fg c.args.brush.opa _ _ c.in-Some.ensures.is c.height.ensures c.ink_glyph.ensures)

pub returns-in_default : goal.returns-in_default
returns-in_default g c = rw c.tick.ensures (draws_none c.args.buf.now _ _ (λ x y i. empty_coat _ _ _ _ (c.in_default.ensures _ _)))

pub returns-then-font-eq0 : goal.returns-then-font-eq0
returns-then-font-eq0 g c = rw (← c.tick.ensures, face_zero c.args.lettering.fonts.now.fonts c.args.lettering.look.font c.if-font-eq0.true) c.ink_letter.ensures
