use Rattle.std.proofs.Common.{length}
use Rattle.gui_board.specs.Boards.{machine_of}
use Rattle.gui_board.proofs.Bubbling.{Walks}
use Rattle.gui_board.proofs.Climbs.{path_from}
use Rattle.gui_board.proofs.board.Board.path.Given as goal

abbrev pub invariant-up : goal.invariant-up
invariant-up l = Walks (machine_of l.self).scene l.fn.target l.path.items l.at

abbrev pub decreases-up : goal.decreases-up
decreases-up l = length (path_from (machine_of l.self).scene l.at)
