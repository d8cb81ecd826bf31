use Rattle.scene_defs.proofs.Values.{values_in_range}
use Rattle.scene_defs.proofs.laws.values_are_in_range.Goals as goal

pub returns : goal.returns
returns c = values_in_range
