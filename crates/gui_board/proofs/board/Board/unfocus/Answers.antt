use Rattle.run_defs.specs.Focusing.{unfocus}
use Rattle.gui_board.proofs.Plays.{played_then}
use Rattle.gui_board.proofs.board.Board.unfocus.Goals as goal

pub returns : goal.returns
unfolding unfocus
returns c = λ log.
    played_then _ _ _ _ _ (played_then _ _ _ _ _ (c.put_state.ensures.done log) (c.put_state-2.ensures.done log)) (c.put_state-3.ensures.done log)
