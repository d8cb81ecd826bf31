use Rattle.std.proofs.Common.{◌≡◌}
use Rattle.scene_defs.specs.Scene.{path_at}
use Rattle.gui_board.specs.Boards.{machine_of}
use Rattle.gui_drag.proofs.Scrolling.{first_at, first_on}
use Rattle.gui_drag.proofs.scrolled_from.Given as goal

abbrev pub invariant-loop-k : goal.invariant-loop-k
invariant-loop-k l =
    first_on (machine_of l.board).scene l.fn.down (path_at (machine_of l.board).scene l.fn.h.0) ≡ first_at (machine_of l.board).scene l.fn.down l.k-iterator
