use Rattle.std.proofs.Common.{sym}
use Rattle.run_defs.specs.Reactions.{react}
use Rattle.gui_board.proofs.Plays.{played_then}
use Rattle.gui_play.proofs.reactions.react_arrow.Goals as goal

pub returns : goal.returns
unfolding react
returns g c =
    rw (sym c.control_value-before.ensures)
    (played_then _ _ _ _ _ (played_then _ _ _ _ _ (c.nudge.ensures (g.S.Sink.state c.args.log.now)) (c.check_by.ensures (g.S.Sink.state c.args.log.now))) c.tell_after.ensures)
