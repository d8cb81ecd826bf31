use Rattle.std.proofs.Common.{subst, Option}
use Rattle.gui_base.specs.declared.Handle.{Handle}
use Rattle.play_defs.specs.declared.Scrolling.{Scrolling}
use Rattle.run_defs.specs.Dragging.{begin_drag, begin_once}
use Rattle.gui_board.specs.Boards.{Quiet, machine_of}
use Rattle.gui_drag.proofs.begin_drag.Goals as goal

pub returns : goal.returns
unfolding begin_drag
returns c =
    let P : Option Scrolling → Option Handle → Type 0 = λ scrolling target. Quiet c.args.board.now c.begin_once.new.board (begin_once scrolling c.args.drag target) in
    λ log. subst (λ (scrolling : Option Scrolling). P scrolling (machine_of c.args.board.now).pointer.target) c.scrolling-scrolling.ensures
    (subst (λ (target : Option Handle). P c.scrolling-scrolling.result target) c.pointer_target-target.ensures c.begin_once.ensures) log
