use Rattle.std.proofs.Common.{sym}
use Rattle.run_defs.specs.Reactions.{react}
use Rattle.gui_board.proofs.Plays.{played_then}
use Rattle.gui_play.proofs.reactions.react_pressed.Goals as goal

pub returns : goal.returns
unfolding react
returns g c =
    rw (sym c.control_value-before.ensures)
    (played_then _ _ _ _ _ (played_then _ _ _ _ _ (c.put_state.ensures.done (g.S.Sink.state c.args.log.now)) (c.slide_to.ensures (g.S.Sink.state c.args.log.now))) c.tell_after.ensures)
