use Rattle.std.proofs.Common.{ap, refl, Option}
use Rattle.play_defs.specs.Input.{keypad_fed}
use Rattle.play_defs.specs.declared.Held.{Held}
use Rattle.run_defs.specs.Devices.{keypad_holds}
use Rattle.gui_board.specs.Boards.{machine_of, stage}
use Rattle.gui_board.proofs.Boards.{played_with}
use Rattle.gui_board.proofs.Writes.{writes_nothing}
use Rattle.gui_board.proofs.board.Board.read_keypad.Goals as goal

pub returns-clause-device : goal.returns-clause-device
returns-clause-device c = λ log.
    let now = c.args.self.now in
    let after = keypad_fed now.inputs.keypad c.args.reading now.inputs.time in
    played_with (stage now log) _ (keypad_holds after.device) (ap (λ (held : Option Held). keypad_holds held (machine_of now)) c.feed.ensures.device) refl refl (writes_nothing now.scribe.cut log) refl
