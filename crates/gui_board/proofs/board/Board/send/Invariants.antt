use Rattle.gui_board.specs.Boards.{stage}
use Rattle.gui_board.specs.Handling.{Sends}
use Rattle.gui_board.proofs.board.Board.send.Given as goal

abbrev pub invariant-along : goal.invariant-along
invariant-along g l =
    Sends l.kind l.target (stage l.initial.self (g.S.Sink.state l.initial.log)) (stage l.self (g.S.Sink.state l.log)) l.path l.current-index
