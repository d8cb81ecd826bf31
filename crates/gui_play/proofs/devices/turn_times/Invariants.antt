use Rattle.run_defs.specs.Devices.{times, turn_once}
use Rattle.gui_board.specs.Boards.{Plays}
use Rattle.gui_play.proofs.devices.turn_times.Given as goal

abbrev pub invariant-steps : goal.invariant-steps
invariant-steps g l =
    Plays l.initial.board l.board (g.S.Sink.state l.initial.log) (g.S.Sink.state l.log) (times l.step (turn_once l.editing l.forwards l.id))
