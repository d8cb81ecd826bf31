use Rattle.std.proofs.Common.{ap, refl}
use Rattle.gui_event.specs.Handlers.{Handlers}
use Rattle.gui_board.specs.Boards.{machine_of, stage}
use Rattle.run_defs.specs.Step.{handlers_dropped}
use Rattle.gui_board.proofs.Boards.{played_with}
use Rattle.gui_board.proofs.Writes.{writes_nothing}
use Rattle.gui_board.proofs.board.Board.drop_handlers.Goals as goal

pub returns : goal.returns
returns c = λ log.
    let board = c.args.self.now in
    played_with (stage board log) _ (handlers_dropped c.args.h c.args.kind) (ap (λ (s : Handlers). record (machine_of board) { handlers = s.lists }) c.drop_kind.ensures) refl refl (writes_nothing board.scribe.cut log) refl
