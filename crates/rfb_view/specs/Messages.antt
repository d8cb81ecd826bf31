-- What the code hears in a message.
use Rattle.std.specs.Prelude.{◌≡◌, true, Some, None, ⊤}
use Rattle.gui_base.specs.Corners.{rect_of}
use Rattle.run_defs.specs.Step.{IsCommand}
use Rattle.session_defs.specs.Formats.{is_format}
use Rattle.session_defs.specs.Messages.{Message as Meaning, Wants, Passes, Asks, Inputs, Errs}
use Rattle.rfb_view.specs.declared.messages.Message.{Message}
use Rattle.rfb_view.specs.declared.messages.Message.TheVariants as said

-- a message of the code as one of the definitions
abbrev pub meaning_of : Message → Meaning
meaning_of (said.Wants format) = Wants format
meaning_of said.Passes = Passes
meaning_of (said.Asks changes area) = Asks changes (rect_of area)
meaning_of (said.Inputs command) = Inputs command
meaning_of (said.Errs why) = Errs why

-- a message that may be said: its format is one that may be asked for, and its input is a command
abbrev pub IsSayable : Message → Type 0
IsSayable (said.Wants format) = is_format format ≡ true
IsSayable said.Passes = ⊤
IsSayable (said.Asks changes area) = ⊤
IsSayable (said.Inputs None) = ⊤
IsSayable (said.Inputs (Some command)) = IsCommand command
IsSayable (said.Errs why) = ⊤
