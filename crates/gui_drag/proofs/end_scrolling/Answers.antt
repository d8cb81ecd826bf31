use Rattle.gui_board.proofs.Plays.{played_then}
use Rattle.gui_drag.proofs.end_scrolling.Goals as goal

pub returns : goal.returns
returns g c =
    let log = g.S.Sink.state c.args.log.now in
    played_then _ _ _ _ _ (played_then _ _ _ _ _ (c.unpress_aimed.ensures log) (c.unscroll_aimed.ensures log)) c.send_aimed.ensures
