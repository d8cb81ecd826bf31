-- What commands make of a machine, in order up to the first that is refused.
use Rattle.std.specs.Prelude.{Option, Some, None, List, [], ◌∷◌, is_some, if◌then◌else◌}
use Rattle.gui_base.specs.declared.refusal.Refusal.{Refusal}
use Rattle.run_defs.specs.Machine.{Machine}
use Rattle.run_defs.specs.Step.{step}
use Rattle.run_defs.specs.declared.Command.{Command}
use Rattle.run_defs.specs.declared.Reply.{Reply}
use Rattle.run_defs.specs.declared.Reply.TheVariants.{Ok as Fine, Refused}

abbrev pub refusal_in : Reply → Option Refusal
refusal_in (Fine noted) = None
refusal_in (Refused refusal) = Some refusal

-- why a command is refused, and the machine after it
unfoldable pub refusal_of : Machine → Command → Option Refusal
refusal_of machine command = refusal_in (step machine command).reply

unfoldable pub after : Machine → Command → Machine
after machine command = (step machine command).machine

abbrev pub or_later : Option Refusal → Option Refusal → Option Refusal
or_later None later = later
or_later (Some refusal) later = Some refusal

-- the first refusal of these, and the machine as they leave it
abbrev pub refusal_of_all : Machine → List Command → Option Refusal
refusal_of_all machine [] = None
refusal_of_all machine (command ∷ commands) =
    or_later (refusal_of machine command) (refusal_of_all (after machine command) commands)

abbrev pub after_all : Machine → List Command → Machine
after_all machine [] = machine
after_all machine (command ∷ commands) =
    if is_some (refusal_of machine command) then after machine command
    else after_all (after machine command) commands
