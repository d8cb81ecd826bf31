use Rattle.std.proofs.Common.{rules, w32, ◌∙◌, sym, subst}
use Rattle.std.proofs.lemmas.Int.{to_z-of_z}
use mir.Val.{SFits}
use Rattle.gui_base.specs.Area.{Rect, Covers}
use Rattle.gui_base.specs.Corners.{rect_of}
use Rattle.gui_base.proofs.Areas.{Covers-empty, hull_is, hull_first, hull_second, hull_least, hull_joined}
use Rattle.gui_base.proofs.area.Area.join.Goals as goal

pub returns-then-is_empty-clause-first : goal.returns-then-is_empty-clause-first
returns-then-is_empty-clause-first c = Covers-empty (rect_of c.args.other) (rect_of c.args.self) (sym c.is_empty.ensures ∙ c.if-is_empty.true)

pub returns-then-is_empty-2-clause-second : goal.returns-then-is_empty-2-clause-second
returns-then-is_empty-2-clause-second c = Covers-empty (rect_of c.args.self) (rect_of c.args.other) (sym c.is_empty-2.ensures ∙ c.if-is_empty-2.true)

pub returns-clause-corners : goal.returns-clause-corners
returns-clause-corners c =
    let args_self_x1 : SFits w32 c.args.self.x1 = search rules in
    let args_self_y1 : SFits w32 c.args.self.y1 = search rules in
    let args_self_x2 : SFits w32 c.args.self.x2 = search rules in
    let args_self_y2 : SFits w32 c.args.self.y2 = search rules in
    let args_other_x1 : SFits w32 c.args.other.x1 = search rules in
    let args_other_y1 : SFits w32 c.args.other.y1 = search rules in
    let args_other_x2 : SFits w32 c.args.other.x2 = search rules in
    let args_other_y2 : SFits w32 c.args.other.y2 = search rules in
    let smaller_result : SFits w32 c.smaller.result = search rules in
    let smaller_2_result : SFits w32 c.smaller-2.result = search rules in
    let greater_result : SFits w32 c.greater.result = search rules in
    let greater_2_result : SFits w32 c.greater-2.result = search rules in
    let is = hull_is (rect_of c.args.self) (rect_of c.args.other) _ _ _ _ (simp to_z-of_z at c.smaller.ensures.value) (simp to_z-of_z at c.smaller-2.ensures.value)
    (simp to_z-of_z at c.greater.ensures.value) (simp to_z-of_z at c.greater-2.ensures.value) in
    simp to_z-of_z (is ∙ hull_joined (rect_of c.args.self) (rect_of c.args.other) (sym c.is_empty.ensures ∙ c.if-is_empty.false) (sym c.is_empty-2.ensures ∙ c.if-is_empty-2.false))

pub returns-clause-first : goal.returns-clause-first
returns-clause-first c =
    let args_self_x1 : SFits w32 c.args.self.x1 = search rules in
    let args_self_y1 : SFits w32 c.args.self.y1 = search rules in
    let args_self_x2 : SFits w32 c.args.self.x2 = search rules in
    let args_self_y2 : SFits w32 c.args.self.y2 = search rules in
    let args_other_x1 : SFits w32 c.args.other.x1 = search rules in
    let args_other_y1 : SFits w32 c.args.other.y1 = search rules in
    let args_other_x2 : SFits w32 c.args.other.x2 = search rules in
    let args_other_y2 : SFits w32 c.args.other.y2 = search rules in
    let smaller_result : SFits w32 c.smaller.result = search rules in
    let smaller_2_result : SFits w32 c.smaller-2.result = search rules in
    let greater_result : SFits w32 c.greater.result = search rules in
    let greater_2_result : SFits w32 c.greater-2.result = search rules in
    let is = hull_is (rect_of c.args.self) (rect_of c.args.other) _ _ _ _ (simp to_z-of_z at c.smaller.ensures.value) (simp to_z-of_z at c.smaller-2.ensures.value)
    (simp to_z-of_z at c.greater.ensures.value) (simp to_z-of_z at c.greater-2.ensures.value) in
    simp to_z-of_z (subst (λ (r : Rect). Covers r (rect_of c.args.self)) (sym is) (hull_first (rect_of c.args.self) (rect_of c.args.other)))

pub returns-clause-second : goal.returns-clause-second
returns-clause-second c =
    let args_self_x1 : SFits w32 c.args.self.x1 = search rules in
    let args_self_y1 : SFits w32 c.args.self.y1 = search rules in
    let args_self_x2 : SFits w32 c.args.self.x2 = search rules in
    let args_self_y2 : SFits w32 c.args.self.y2 = search rules in
    let args_other_x1 : SFits w32 c.args.other.x1 = search rules in
    let args_other_y1 : SFits w32 c.args.other.y1 = search rules in
    let args_other_x2 : SFits w32 c.args.other.x2 = search rules in
    let args_other_y2 : SFits w32 c.args.other.y2 = search rules in
    let smaller_result : SFits w32 c.smaller.result = search rules in
    let smaller_2_result : SFits w32 c.smaller-2.result = search rules in
    let greater_result : SFits w32 c.greater.result = search rules in
    let greater_2_result : SFits w32 c.greater-2.result = search rules in
    let is = hull_is (rect_of c.args.self) (rect_of c.args.other) _ _ _ _ (simp to_z-of_z at c.smaller.ensures.value) (simp to_z-of_z at c.smaller-2.ensures.value)
    (simp to_z-of_z at c.greater.ensures.value) (simp to_z-of_z at c.greater-2.ensures.value) in
    simp to_z-of_z (subst (λ (r : Rect). Covers r (rect_of c.args.other)) (sym is) (hull_second (rect_of c.args.self) (rect_of c.args.other)))

pub returns-clause-least : goal.returns-clause-least
returns-clause-least c = λ area h k.
    let args_self_x1 : SFits w32 c.args.self.x1 = search rules in
    let args_self_y1 : SFits w32 c.args.self.y1 = search rules in
    let args_self_x2 : SFits w32 c.args.self.x2 = search rules in
    let args_self_y2 : SFits w32 c.args.self.y2 = search rules in
    let args_other_x1 : SFits w32 c.args.other.x1 = search rules in
    let args_other_y1 : SFits w32 c.args.other.y1 = search rules in
    let args_other_x2 : SFits w32 c.args.other.x2 = search rules in
    let args_other_y2 : SFits w32 c.args.other.y2 = search rules in
    let smaller_result : SFits w32 c.smaller.result = search rules in
    let smaller_2_result : SFits w32 c.smaller-2.result = search rules in
    let greater_result : SFits w32 c.greater.result = search rules in
    let greater_2_result : SFits w32 c.greater-2.result = search rules in
    let is = hull_is (rect_of c.args.self) (rect_of c.args.other) _ _ _ _ (simp to_z-of_z at c.smaller.ensures.value) (simp to_z-of_z at c.smaller-2.ensures.value)
    (simp to_z-of_z at c.greater.ensures.value) (simp to_z-of_z at c.greater-2.ensures.value) in
    simp to_z-of_z (subst (Covers area) (sym is)
    (hull_least (rect_of c.args.self) (rect_of c.args.other) area (sym c.is_empty.ensures ∙ c.if-is_empty.false) (sym c.is_empty-2.ensures ∙ c.if-is_empty-2.false) h k))
