use Rattle.gui_draw.proofs.Common.{rect_of}
use Rattle.gui_draw.proofs.Lines.{part_inside, part_outside}
use Rattle.gui_draw.proofs.fills.fill.Goals as goal

pub returns-in-Some : goal.returns-in-Some
returns-in-Some g c = part_inside _ _ (rect_of c.args.clip) (rect_of c.args.area) (rect_of c.in-Some.part) _ _ _ c.in-Some.ensures c.fill_part.ensures

pub returns-in_default : goal.returns-in_default
returns-in_default g c = part_outside _ (rect_of c.args.clip) (rect_of c.args.area) _ _ c.in_default.ensures
