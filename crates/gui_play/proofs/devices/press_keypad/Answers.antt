use Rattle.run_defs.specs.Devices.{press_keypad}
use Rattle.gui_board.proofs.Plays.{played_then}
use Rattle.gui_play.proofs.devices.press_keypad.Goals as goal

pub returns : goal.returns
unfolding press_keypad
returns g c = played_then _ _ _ _ _ (c.aim_keypad.ensures (g.S.Sink.state c.args.log.now)) c.press_aimed.ensures
