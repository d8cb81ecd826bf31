use Rattle.std.proofs.Common.{◌≤◌, length}
use Rattle.gui_change.specs.Canvas.{scene_in}
use Rattle.scene_defs.specs.Shown.{entries}
use Rattle.gui_board.proofs.LastHit.{NoneFrom}
use Rattle.gui_board.proofs.board.Board.hit.Given as goal

abbrev pub invariant-loop-n : goal.invariant-loop-n
invariant-loop-n l =
    let scene = scene_in l.self.canvas in
    record {
      within : l.n ≤ length (entries scene);
      none : NoneFrom scene l.fn.x l.fn.y l.n;
    }

abbrev pub decreases-loop-n : goal.decreases-loop-n
decreases-loop-n l = l.n
