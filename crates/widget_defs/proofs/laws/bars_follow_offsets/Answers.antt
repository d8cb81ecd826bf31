use Rattle.widget_defs.proofs.Bars.{bars_follow_offsets}
use Rattle.widget_defs.proofs.laws.bars_follow_offsets.Goals as goal

pub returns : goal.returns
returns c = bars_follow_offsets
