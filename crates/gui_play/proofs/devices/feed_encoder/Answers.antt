use Rattle.std.proofs.Common.{◌∙◌, subst, List}
use Rattle.play_defs.specs.declared.InputEvent.{InputEvent}
use Rattle.run_defs.specs.Devices.{feed_encoder, encoder_tells}
use Rattle.run_defs.specs.Play.{each}
use Rattle.gui_board.specs.Boards.{Plays}
use Rattle.gui_board.proofs.Plays.{played_then}
use Rattle.gui_play.proofs.devices.feed_encoder.Goals as goal

pub returns : goal.returns
unfolding feed_encoder
returns g c =
    let P : List InputEvent → Type 0 = λ tells. Plays c.read_encoder-tells.new.self c.encoder_tells_all.new.board (g.S.Sink.state c.args.log.now) (g.S.Sink.state c.encoder_tells_all.new.log) (each encoder_tells tells) in
    played_then _ _ _ _ _ (c.read_encoder-tells.ensures.device (g.S.Sink.state c.args.log.now)) (subst P (c.as_slice.ensures.value ∙ c.read_encoder-tells.ensures.tells) c.encoder_tells_all.ensures)
