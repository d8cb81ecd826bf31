use Rattle.run_defs.specs.Focusing.{refocus}
use Rattle.gui_board.proofs.Plays.{played_then, idle}
use Rattle.gui_board.proofs.board.Board.refocus.Goals as goal

pub returns-then-by_key : goal.returns-then-by_key
unfolding refocus
returns-then-by_key c = λ log.
    rw c.if-by_key.true (played_then _ _ _ _ _ (c.put_state.ensures.done log) (c.put_state-then-by_key.ensures.done log))

pub returns-else-by_key : goal.returns-else-by_key
unfolding refocus
returns-else-by_key c = λ log. rw c.if-by_key.false (played_then _ _ _ _ _ (c.put_state.ensures.done log) (idle _))
