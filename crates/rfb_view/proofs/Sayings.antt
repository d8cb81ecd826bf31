-- Messages that may be said.
use Rattle.std.proofs.Common.{◌≡◌, true, Option, Some, None}
use Rattle.std.specs.Prelude.{IfSome}
use Rattle.run_defs.specs.declared.Command.{Command}
use Rattle.run_defs.specs.Step.{IsCommand}
use Rattle.session_defs.specs.Formats.{is_format}
use Rattle.session_defs.specs.declared.Format.{Format}
use Rattle.rfb_view.specs.Messages.{IsSayable}
use Rattle.rfb_view.specs.declared.messages.Message.TheVariants.{Inputs, Wants}

pub sayable_input : (command : Option Command) → IfSome command IsCommand → IsSayable (Inputs command)
sayable_input None h = tt
sayable_input (Some command) h = h

pub sayable_format : (format : Format) → is_format format ≡ true → IsSayable (Wants format)
sayable_format format h = h
