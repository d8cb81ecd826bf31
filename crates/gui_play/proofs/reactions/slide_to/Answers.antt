use Rattle.std.proofs.Common.{FitsSigned, w32, rules}
use Rattle.std.proofs.lemmas.Int.{to_z-of_z}
use Rattle.run_defs.specs.Reactions.{slide_to}
use Rattle.gui_board.proofs.Plays.{idle}
use Rattle.gui_play.proofs.reactions.slide_to.Goals as goal

pub returns-in-Some : goal.returns-in-Some
unfolding slide_to
returns-in-Some c = λ log.
    let x : FitsSigned w32 c.in-Some.reading.x = search rules in
    let played = c.slide.ensures log in
    rw c.in-Some.is (simp to_z-of_z at played)

pub returns-in_default : goal.returns-in_default
unfolding slide_to
returns-in_default c = λ log. rw c.in_default.is (idle _)
