use Rattle.std.proofs.Common.{sym}
use Rattle.run_defs.specs.Devices.{change_editing}
use Rattle.gui_play.proofs.devices.change_editing.Goals as goal

pub returns : goal.returns
unfolding change_editing
returns c = λ log. rw (sym c.focused-focused.ensures, sym c.editing-editing.ensures) (c.edit_aimed.ensures log)
