use Rattle.widget_defs.proofs.Shares.{shares_follow_values}
use Rattle.widget_defs.proofs.laws.shares_follow_values.Goals as goal

pub returns : goal.returns
returns c = shares_follow_values
