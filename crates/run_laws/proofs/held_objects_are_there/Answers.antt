use Rattle.run_laws.proofs.Held.{first_are_held, steps_keep_held}
use Rattle.run_laws.proofs.held_objects_are_there.Goals as goal

pub returns : goal.returns
returns c = record { first = first_are_held; step = steps_keep_held }
