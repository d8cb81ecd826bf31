use Rattle.run_laws.proofs.Moving.{first_animated, steps_keep_animated}
use Rattle.run_laws.proofs.animated_are_there.Goals as goal

pub returns : goal.returns
returns c = record { first = first_animated; step = steps_keep_animated }
