use Rattle.gui_board.proofs.Plays.{played_then}
use Rattle.gui_play.proofs.devices.drag_pointer.Goals as goal

pub returns : goal.returns
returns g c = played_then _ _ _ _ _ (c.serve_drag.ensures (g.S.Sink.state c.args.log.now)) c.hold_pointer.ensures
