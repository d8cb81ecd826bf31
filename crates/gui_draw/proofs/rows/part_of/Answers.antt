use Rattle.gui_draw.proofs.Common.{◌∙◌, sym, ap, ◌&&◌, Rect, has, rect_of}
use Rattle.gui_draw.proofs.Lines.{part_is, part_none}
use Rattle.gui_draw.proofs.rows.part_of.Goals as goal

pub returns-else-is_empty : goal.returns-else-is_empty
returns-else-is_empty c =
    part_is c.args.buf.now.area (rect_of c.args.clip) (rect_of c.args.item) (rect_of c.meet.result) (rect_of c.meet-part.result)
    (λ x y. c.meet.ensures.pixels x y ∙ ap (λ (area : Rect). has area x y && has (rect_of c.args.clip) x y) c.area.ensures) c.meet-part.ensures.pixels (sym c.is_empty.ensures ∙ c.if-is_empty.false)

pub returns-then-is_empty : goal.returns-then-is_empty
returns-then-is_empty c =
    part_none c.args.buf.now.area (rect_of c.args.clip) (rect_of c.args.item) (rect_of c.meet.result) (rect_of c.meet-part.result)
    (λ x y. c.meet.ensures.pixels x y ∙ ap (λ (area : Rect). has area x y && has (rect_of c.args.clip) x y) c.area.ensures) c.meet-part.ensures.pixels (sym c.is_empty.ensures ∙ c.if-is_empty.true)
