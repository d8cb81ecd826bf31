use Rattle.run_defs.specs.Devices.{edit}
use Rattle.gui_board.proofs.Plays.{played_then}
use Rattle.gui_play.proofs.devices.edit.Goals as goal

pub returns : goal.returns
unfolding edit
returns c = λ log. played_then _ _ _ _ _ (c.set_editing.ensures log) (c.put_state.ensures.done log)
