use Rattle.std.proofs.Common.{take}
use Rattle.run_defs.specs.Devices.{keypad_tells}
use Rattle.run_defs.specs.Play.{each}
use Rattle.gui_board.specs.Boards.{Plays}
use Rattle.gui_play.proofs.devices.keypad_tells_all.Given as goal

abbrev pub invariant-tells : goal.invariant-tells
invariant-tells g l =
    Plays l.initial.board l.board (g.S.Sink.state l.initial.log) (g.S.Sink.state l.log) (each keypad_tells (take l.tell-index l.tells))
