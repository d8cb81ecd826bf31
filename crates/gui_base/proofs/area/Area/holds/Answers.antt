use Rattle.std.proofs.Common.{rules, w32, ◌∙◌, ap, ◌&&◌, sym}
use Rattle.std.specs.Int.Signed.{le_z}
use Rattle.std.proofs.lemmas.Int.{to_z-of_z}
use mir.Val.{SFits}
use Rattle.gui_base.proofs.area.Area.holds.Goals as goal

pub returns-then-is_between : goal.returns-then-is_between
returns-then-is_between c =
    let self_x1 : SFits w32 c.args.self.x1 = search rules in
    let self_x2 : SFits w32 c.args.self.x2 = search rules in
    let self_y1 : SFits w32 c.args.self.y1 = search rules in
    let self_y2 : SFits w32 c.args.self.y2 = search rules in
    let x : SFits w32 c.args.x = search rules in
    let y : SFits w32 c.args.y = search rules in
    let columns = simp to_z-of_z at c.is_between.ensures in
    let lines = simp to_z-of_z at c.is_between-then-is_between.ensures in
    lines ∙ ap (λ b. b && (le_z c.args.self.y1 c.args.y && le_z c.args.y c.args.self.y2)) (sym (sym columns ∙ c.if-is_between.true))
