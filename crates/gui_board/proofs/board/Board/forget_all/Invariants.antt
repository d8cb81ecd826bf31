use Rattle.std.proofs.Common.{◌≡◌, length, take}
use Rattle.gui_change.specs.Canvas.{removed_in}
use Rattle.run_defs.specs.Making.{forget, handles}
use Rattle.run_defs.specs.Play.{each}
use Rattle.gui_board.specs.Boards.{Quiet}
use Rattle.gui_board.proofs.board.Board.forget_all.Given as goal

abbrev pub invariant-gone : goal.invariant-gone
invariant-gone l = record {
  done : Quiet l.initial.self l.self (each forget (take l.i (handles (removed_in l.initial.self.canvas))));
  same : removed_in l.self.canvas ≡ removed_in l.initial.self.canvas;
  count : l.count ≡ length (removed_in l.initial.self.canvas);
}
