use Rattle.run_defs.specs.Animating.{animate_all}
use Rattle.gui_board.proofs.Plays.{played_then}
use Rattle.gui_play.proofs.animating.animate_all.Goals as goal

pub returns : goal.returns
unfolding animate_all
returns c = λ log. played_then _ _ _ _ _ (c.animate_each.ensures log) (c.drop_ended.ensures log)
