use Rattle.std.proofs.Common.{◌∙◌, subst, List}
use Rattle.play_defs.specs.declared.InputEvent.{InputEvent}
use Rattle.run_defs.specs.Devices.{feed_keypad, keypad_tells}
use Rattle.run_defs.specs.Play.{each}
use Rattle.gui_board.specs.Boards.{Plays}
use Rattle.gui_board.proofs.Plays.{played_then}
use Rattle.gui_play.proofs.devices.feed_keypad.Goals as goal

pub returns : goal.returns
unfolding feed_keypad
returns g c =
    let P : List InputEvent → Type 0 = λ tells. Plays c.read_keypad-tells.new.self c.keypad_tells_all.new.board (g.S.Sink.state c.args.log.now) (g.S.Sink.state c.keypad_tells_all.new.log) (each keypad_tells tells) in
    played_then _ _ _ _ _ (c.read_keypad-tells.ensures.device (g.S.Sink.state c.args.log.now)) (subst P (c.as_slice.ensures.value ∙ c.read_keypad-tells.ensures.tells) c.keypad_tells_all.ensures)
