use Rattle.play_defs.proofs.Values.{values_between}
use Rattle.play_defs.proofs.laws.values_lie_between.Goals as goal

pub returns : goal.returns
returns c = values_between
