use Rattle.std.proofs.Common.{take}
use Rattle.run_defs.specs.Animating.{animate}
use Rattle.run_defs.specs.Play.{each}
use Rattle.gui_board.specs.Boards.{machine_of, Quiet}
use Rattle.gui_play.proofs.animating.animate_each.Given as goal

abbrev pub invariant-anims : goal.invariant-anims
invariant-anims l = Quiet l.initial.board l.board (each animate (take l.n (machine_of l.initial.board).anims))
