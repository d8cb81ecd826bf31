use Rattle.gui_board.proofs.Plays.{idle, played_then}
use Rattle.gui_board.proofs.plays_add_up.Goals as goal

pub returns-clause-nothing : goal.returns-clause-nothing
returns-clause-nothing c = idle

pub returns-clause-then : goal.returns-clause-then
returns-clause-then c = played_then
