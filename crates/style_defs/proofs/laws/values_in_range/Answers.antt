use Rattle.style_defs.proofs.Ranges.{values_in_range}
use Rattle.style_defs.proofs.laws.values_in_range.Goals as goal

pub returns : goal.returns
returns c = values_in_range
