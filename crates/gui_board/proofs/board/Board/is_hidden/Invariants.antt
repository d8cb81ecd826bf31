use Rattle.std.proofs.Common.{◌≡◌}
use Rattle.std.specs.List.{list_any}
use Rattle.gui_change.specs.Canvas.{scene_in}
use Rattle.run_defs.specs.Making.{is_hidden}
use Rattle.scene_defs.specs.Scene.{path_at, row_at}
use Rattle.gui_board.specs.Hiding.{hides}
use Rattle.gui_board.proofs.board.Board.is_hidden.Given as goal

abbrev pub invariant-loop-k : goal.invariant-loop-k
invariant-loop-k l =
    list_any is_hidden (path_at (scene_in l.self.canvas) l.fn.h.0) ≡ list_any (λ j. hides (row_at (scene_in l.self.canvas) j)) l.k-iterator
