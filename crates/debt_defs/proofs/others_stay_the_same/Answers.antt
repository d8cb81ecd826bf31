use Rattle.debt_defs.proofs.Concerned.{others_are_same, others_look_same}
use Rattle.debt_defs.proofs.others_stay_the_same.Goals as goal

pub returns : goal.returns
returns c = record { same = others_are_same; looks = others_look_same }
