use Rattle.run_defs.specs.Devices.{press_pointer}
use Rattle.gui_board.proofs.Plays.{played_then}
use Rattle.gui_play.proofs.devices.press_pointer.Goals as goal

pub returns : goal.returns
unfolding press_pointer
returns g c =
    let log = g.S.Sink.state c.args.log.now in
    played_then _ _ _ _ _ (played_then _ _ _ _ _ (c.aim_pointer.ensures log) (c.set_scrolling.ensures log)) c.press_aimed.ensures
