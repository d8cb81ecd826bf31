use Rattle.std.proofs.Common.{◌∙◌, sym, FitsSigned, w32, rules}
use Rattle.std.proofs.lemmas.Int.{to_z-of_z}
use Rattle.gui_board.specs.Boards.{stage}
use Rattle.gui_play.proofs.Sliding.{slid, slid_none}
use Rattle.gui_play.proofs.reactions.slide.Goals as goal

pub returns-in-Some : goal.returns-in-Some
returns-in-Some c = λ log.
    let x : FitsSigned w32 c.args.x = c.ranges.x in
    let n : FitsSigned w32 c.in-Some.n = search rules in
    let played = c.put_value.ensures log in
    slid (stage c.args.board.now log) _ c.args.x c.in-Some.n c.args.h (sym (simp to_z-of_z at c.slid_value.ensures) ∙ c.in-Some.is) (simp to_z-of_z at played)

pub returns-in_default : goal.returns-in_default
returns-in_default c = λ log.
    let x : FitsSigned w32 c.args.x = c.ranges.x in
    slid_none (stage c.args.board.now log) c.args.x c.args.h (sym (simp to_z-of_z at c.slid_value.ensures) ∙ c.in_default.is)
