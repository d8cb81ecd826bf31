use Rattle.run_defs.specs.Focusing.{leave}
use Rattle.gui_board.proofs.Plays.{played_then}
use Rattle.gui_board.proofs.board.Board.leave.Goals as goal

pub returns : goal.returns
unfolding leave
returns c = λ log. played_then _ _ _ _ _ (c.unfocus_focused.ensures log) (c.leave_group.ensures.done log)
