use Rattle.std.proofs.Common.{◌∙◌, subst, List}
use Rattle.play_defs.specs.declared.InputEvent.{InputEvent}
use Rattle.run_defs.specs.Devices.{feed_pointer, pointer_tells}
use Rattle.run_defs.specs.Play.{each}
use Rattle.gui_board.specs.Boards.{Plays}
use Rattle.gui_board.proofs.Plays.{played_then}
use Rattle.gui_play.proofs.devices.feed_pointer.Goals as goal

pub returns : goal.returns
unfolding feed_pointer
returns g c =
    let P : List InputEvent → Type 0 = λ tells. Plays c.read_pointer-tells.new.self c.pointer_tells_all.new.board (g.S.Sink.state c.args.log.now) (g.S.Sink.state c.pointer_tells_all.new.log) (each (pointer_tells c.args.reading) tells) in
    played_then _ _ _ _ _ (c.read_pointer-tells.ensures.device (g.S.Sink.state c.args.log.now)) (subst P (c.as_slice.ensures.value ∙ c.read_pointer-tells.ensures.tells) c.pointer_tells_all.ensures)
