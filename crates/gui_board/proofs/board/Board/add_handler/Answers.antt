use Rattle.std.proofs.Common.{ap, refl}
use Rattle.gui_event.specs.Handlers.{Handlers}
use Rattle.gui_board.specs.Boards.{machine_of, stage}
use Rattle.run_defs.specs.Step.{handler_added}
use Rattle.gui_board.proofs.Answering.{handler_left}
use Rattle.gui_board.proofs.Boards.{played_with}
use Rattle.gui_board.proofs.Writes.{writes_nothing}
use Rattle.gui_board.proofs.board.Board.add_handler.Goals as goal

pub returns : goal.returns
returns c = λ log.
    let board = c.args.self.now in
    let next = handler_left board.handlers c.add_handler.new.self c.add_handler.result _ _ board.sized.handlers_fit c.requires c.add_handler.ensures.answer c.add_handler.ensures.ok in
    played_with (stage board log) _ (handler_added c.args.h c.args.kind c.args.action) (ap (λ (s : Handlers). record (machine_of board) { handlers = s.lists }) next) refl refl (writes_nothing board.scribe.cut log) refl
