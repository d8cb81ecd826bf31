use Rattle.std.proofs.Common.{refl}
use Rattle.gui_board.specs.Boards.{stage}
use Rattle.gui_board.proofs.Removals.{forgets}
use Rattle.gui_board.proofs.board.Board.forget.Goals as goal

pub returns-clause-done : goal.returns-clause-done
returns-clause-done c = λ log.
    forgets (stage c.args.self.now log) _ _ c.args.h (c.leave_group.ensures.done log) (rw (c.forget.ensures, c.forget-2.ensures, c.forget-3.ensures) refl)
