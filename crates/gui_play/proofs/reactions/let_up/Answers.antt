use Rattle.run_defs.specs.Reactions.{let_up}
use Rattle.gui_board.proofs.Plays.{played_then}
use Rattle.gui_play.proofs.reactions.let_up.Goals as goal

pub returns : goal.returns
unfolding let_up
returns g c = played_then _ _ _ _ _ (c.put_state.ensures.done (g.S.Sink.state c.args.log.now)) c.send_input.ensures
