use Rattle.run_laws.proofs.Commands.{command_within_panel, refused_command, owed_holds_all}
use Rattle.run_laws.proofs.commands_owe_what_they_change.Goals as goal

pub returns : goal.returns
returns c = record { within = command_within_panel; refused = refused_command; frame = owed_holds_all }
