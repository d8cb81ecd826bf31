use Rattle.run_laws.proofs.Members.{first_are_joined, steps_keep_members, one_more_fits}
use Rattle.run_laws.proofs.members_are_there.Goals as goal

pub returns : goal.returns
returns c = record { first = first_are_joined; step = steps_keep_members; room = one_more_fits }
