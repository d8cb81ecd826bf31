use Rattle.widget_defs.proofs.Shares.{knobs_stay_inside}
use Rattle.widget_defs.proofs.laws.knobs_stay_inside.Goals as goal

pub returns : goal.returns
returns c = knobs_stay_inside
