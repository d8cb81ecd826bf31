use Rattle.run_defs.specs.Ticks.{tick}
use Rattle.gui_board.proofs.Plays.{played_then}
use Rattle.gui_play.proofs.ticks.tick.Goals as goal

pub returns : goal.returns
unfolding tick
returns g c =
    played_then _ _ _ _ _ (played_then _ _ _ _ _ (played_then _ _ _ _ _ (played_then _ _ _ _ _ (c.pass.ensures (g.S.Sink.state c.args.log.now)) c.feed_pointer.ensures) c.feed_keypad.ensures) c.feed_encoder.ensures) (c.animate_all.ensures (g.S.Sink.state c.feed_encoder.new.log))
