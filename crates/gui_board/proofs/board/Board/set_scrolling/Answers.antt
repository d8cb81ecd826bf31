use Rattle.std.proofs.Common.{refl}
use Rattle.run_defs.specs.Dragging.{scrolls}
use Rattle.gui_board.specs.Boards.{stage}
use Rattle.gui_board.proofs.Boards.{played_with}
use Rattle.gui_board.proofs.Writes.{writes_nothing}
use Rattle.gui_board.proofs.board.Board.set_scrolling.Goals as goal

pub returns : goal.returns
returns c = λ log.
    played_with (stage c.args.self.now log) _ (scrolls c.args.scrolling) refl refl refl (writes_nothing c.args.self.now.scribe.cut log) refl
