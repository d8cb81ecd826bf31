use Rattle.std.proofs.Common.{◌∙◌, sym}
use Rattle.gui_base.specs.Corners.{rect_of}
use Rattle.gui_base.proofs.Areas.{Covers-empty, has_corners-Covers}
use Rattle.gui_base.proofs.area.Area.holds_area.Goals as goal

pub returns-then-is_empty : goal.returns-then-is_empty
returns-then-is_empty c = (λ t. Covers-empty (rect_of c.args.self) (rect_of c.args.other) (sym c.is_empty.ensures ∙ c.if-is_empty.true), λ k. c.if-is_empty.true)

pub returns-else-is_empty : goal.returns-else-is_empty
returns-else-is_empty c = has_corners-Covers (rect_of c.args.self) (rect_of c.args.other) _ (sym c.is_empty.ensures ∙ c.if-is_empty.false) c.holds_corners.ensures
