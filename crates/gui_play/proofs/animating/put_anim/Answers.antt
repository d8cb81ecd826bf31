use Rattle.std.proofs.Common.{FitsSigned, w32, rules}
use Rattle.std.proofs.lemmas.Int.{to_z-of_z}
use Rattle.gui_play.proofs.animating.put_anim.Goals as goal

pub returns-in-Now : goal.returns-in-Now
returns-in-Now c = λ log.
    let n : FitsSigned w32 c.in-Now.n = search rules in
    let played = c.put_var.ensures log in
    rw c.in-Now.is (simp to_z-of_z at played)

pub returns-in-Last : goal.returns-in-Last
returns-in-Last c = λ log.
    let n : FitsSigned w32 c.in-Last.n = search rules in
    let played = c.put_var-in-Last.ensures log in
    rw c.in-Last.is (simp to_z-of_z at played)
