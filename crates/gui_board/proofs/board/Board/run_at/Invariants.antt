use Rattle.gui_board.specs.Boards.{stage}
use Rattle.gui_board.specs.Handling.{Handles}
use Rattle.gui_board.proofs.board.Board.run_at.Given as goal

abbrev pub invariant-handlers : goal.invariant-handlers
invariant-handlers g l =
    Handles l.kind l.target l.current (stage l.initial.self (g.S.Sink.state l.initial.log)) (stage l.self (g.S.Sink.state l.log)) l.n
