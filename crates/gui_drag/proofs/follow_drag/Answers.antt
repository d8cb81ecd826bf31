use Rattle.std.proofs.Common.{subst, Option}
use Rattle.play_defs.specs.declared.Scrolling.{Scrolling}
use Rattle.run_defs.specs.Dragging.{follow_drag, follow}
use Rattle.gui_board.specs.Boards.{Quiet}
use Rattle.gui_drag.proofs.follow_drag.Goals as goal

pub returns : goal.returns
unfolding follow_drag
returns c = λ log.
    subst (λ (scrolling : Option Scrolling). Quiet c.args.board.now c.follow.new.board (follow scrolling c.args.drag)) c.scrolling-scrolling.ensures c.follow.ensures log
