use Rattle.run_defs.specs.Dragging.{serve_drag}
use Rattle.gui_board.proofs.Plays.{played_then}
use Rattle.gui_drag.proofs.serve_drag.Goals as goal

pub returns : goal.returns
unfolding serve_drag
returns c = λ log. played_then _ _ _ _ _ (c.begin_drag.ensures log) (c.follow_drag.ensures log)
