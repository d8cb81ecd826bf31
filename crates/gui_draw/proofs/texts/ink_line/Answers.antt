use Rattle.gui_draw.proofs.Common.{◌∙◌, sym, rect_of, chars, take, face_in}
use Rattle.gui_draw.proofs.Lining.{line_beside, line_within}
use Rattle.gui_draw.proofs.texts.ink_line.Goals as goal

pub returns-then-is_beside : goal.returns-then-is_beside
returns-then-is_beside g c =
    line_beside _ (rect_of c.args.brush.part) (face_in c.args.lettering.fonts.now c.args.lettering.look.font) c.args.lettering.look.letter (take c.args.run.count (chars c.args.run.text.now)) c.args.start.x c.args.start.y c.args.brush.fg c.args.brush.opa _ c.args.run.count c.height-height.result c.height-height.ensures
    (sym c.is_beside.ensures ∙ c.if-is_beside.true)

pub returns : goal.returns
returns g c = line_within _ _ _ c.args.run.count _ _ c.ink_run.ensures
