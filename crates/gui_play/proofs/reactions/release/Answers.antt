use Rattle.run_defs.specs.Reactions.{release}
use Rattle.gui_board.proofs.Plays.{played_then}
use Rattle.gui_play.proofs.reactions.release.Goals as goal

pub returns : goal.returns
unfolding release
returns g c = played_then _ _ _ _ _ (played_then _ _ _ _ _ c.let_up.ensures c.short_click.ensures) c.click.ensures
