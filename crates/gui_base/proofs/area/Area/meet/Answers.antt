use Rattle.std.proofs.Common.{rules, w32, ◌∙◌, ap}
use Rattle.std.proofs.lemmas.Int.{to_z-of_z}
use mir.Val.{SFits}
use Rattle.gui_base.specs.Area.{Rect, has}
use Rattle.gui_base.specs.Corners.{rect_of}
use Rattle.gui_base.proofs.Areas.{common_is, has-common}
use Rattle.gui_base.proofs.area.Area.meet.Goals as goal

pub returns-clause-corners : goal.returns-clause-corners
returns-clause-corners c =
    let args_self_x1 : SFits w32 c.args.self.x1 = search rules in
    let args_self_y1 : SFits w32 c.args.self.y1 = search rules in
    let args_self_x2 : SFits w32 c.args.self.x2 = search rules in
    let args_self_y2 : SFits w32 c.args.self.y2 = search rules in
    let args_other_x1 : SFits w32 c.args.other.x1 = search rules in
    let args_other_y1 : SFits w32 c.args.other.y1 = search rules in
    let args_other_x2 : SFits w32 c.args.other.x2 = search rules in
    let args_other_y2 : SFits w32 c.args.other.y2 = search rules in
    let smaller_result : SFits w32 c.smaller.result = search rules in
    let smaller_2_result : SFits w32 c.smaller-2.result = search rules in
    let greater_result : SFits w32 c.greater.result = search rules in
    let greater_2_result : SFits w32 c.greater-2.result = search rules in
    simp to_z-of_z (common_is (rect_of c.args.self) (rect_of c.args.other) _ _ _ _ (simp to_z-of_z at c.greater.ensures.value) (simp to_z-of_z at c.greater-2.ensures.value)
    (simp to_z-of_z at c.smaller.ensures.value) (simp to_z-of_z at c.smaller-2.ensures.value))

pub returns-clause-pixels : goal.returns-clause-pixels
returns-clause-pixels c = λ x y.
    let args_self_x1 : SFits w32 c.args.self.x1 = search rules in
    let args_self_y1 : SFits w32 c.args.self.y1 = search rules in
    let args_self_x2 : SFits w32 c.args.self.x2 = search rules in
    let args_self_y2 : SFits w32 c.args.self.y2 = search rules in
    let args_other_x1 : SFits w32 c.args.other.x1 = search rules in
    let args_other_y1 : SFits w32 c.args.other.y1 = search rules in
    let args_other_x2 : SFits w32 c.args.other.x2 = search rules in
    let args_other_y2 : SFits w32 c.args.other.y2 = search rules in
    let smaller_result : SFits w32 c.smaller.result = search rules in
    let smaller_2_result : SFits w32 c.smaller-2.result = search rules in
    let greater_result : SFits w32 c.greater.result = search rules in
    let greater_2_result : SFits w32 c.greater-2.result = search rules in
    let is = common_is (rect_of c.args.self) (rect_of c.args.other) _ _ _ _ (simp to_z-of_z at c.greater.ensures.value) (simp to_z-of_z at c.greater-2.ensures.value)
    (simp to_z-of_z at c.smaller.ensures.value) (simp to_z-of_z at c.smaller-2.ensures.value) in
    simp to_z-of_z (ap (λ (r : Rect). has r x y) is ∙ has-common (rect_of c.args.self) (rect_of c.args.other) x y)
