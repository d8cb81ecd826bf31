use Rattle.std.proofs.Common.{ap, refl, Option}
use Rattle.play_defs.specs.Input.{pointer_fed}
use Rattle.play_defs.specs.declared.Touch.{Touch}
use Rattle.run_defs.specs.Devices.{pointer_holds}
use Rattle.gui_board.specs.Boards.{machine_of, stage}
use Rattle.gui_board.proofs.Boards.{played_with}
use Rattle.gui_board.proofs.Writes.{writes_nothing}
use Rattle.gui_board.proofs.board.Board.read_pointer.Goals as goal

pub returns-clause-device : goal.returns-clause-device
returns-clause-device c = λ log.
    let now = c.args.self.now in
    let after = pointer_fed now.inputs.pointer c.args.reading now.inputs.time in
    played_with (stage now log) _ (pointer_holds after.device) (ap (λ (held : Option Touch). pointer_holds held (machine_of now)) c.feed.ensures.device) refl refl (writes_nothing now.scribe.cut log) refl
