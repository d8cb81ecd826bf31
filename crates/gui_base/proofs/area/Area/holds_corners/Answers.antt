use Rattle.std.proofs.Common.{rules, w32, ◌∙◌, ap, ◌&&◌, sym}
use Rattle.std.specs.Int.Signed.{le_z}
use Rattle.std.proofs.lemmas.Int.{to_z-of_z}
use mir.Val.{SFits}
use Rattle.gui_base.proofs.area.Area.holds_corners.Goals as goal

pub returns-then-is_within : goal.returns-then-is_within
returns-then-is_within c =
    let self_x1 : SFits w32 c.args.self.x1 = search rules in
    let self_x2 : SFits w32 c.args.self.x2 = search rules in
    let self_y1 : SFits w32 c.args.self.y1 = search rules in
    let self_y2 : SFits w32 c.args.self.y2 = search rules in
    let other_x1 : SFits w32 c.args.other.x1 = search rules in
    let other_x2 : SFits w32 c.args.other.x2 = search rules in
    let other_y1 : SFits w32 c.args.other.y1 = search rules in
    let other_y2 : SFits w32 c.args.other.y2 = search rules in
    let columns = simp to_z-of_z at c.is_within.ensures in
    let lines = simp to_z-of_z at c.is_within-then-is_within.ensures in
    lines ∙ ap (λ b. b && (le_z c.args.self.y1 c.args.other.y1 && le_z c.args.other.y2 c.args.self.y2)) (sym (sym columns ∙ c.if-is_within.true))

pub returns-else-is_within : goal.returns-else-is_within
returns-else-is_within c =
    let self_x1 : SFits w32 c.args.self.x1 = search rules in
    let self_x2 : SFits w32 c.args.self.x2 = search rules in
    let other_x1 : SFits w32 c.args.other.x1 = search rules in
    let other_x2 : SFits w32 c.args.other.x2 = search rules in
    let columns = simp to_z-of_z at c.is_within.ensures in
    c.if-is_within.false ∙ sym (ap (λ b. b && (le_z c.args.self.y1 c.args.other.y1 && le_z c.args.other.y2 c.args.self.y2)) (sym columns ∙ c.if-is_within.false))
