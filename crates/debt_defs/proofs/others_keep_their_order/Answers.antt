use Rattle.debt_defs.proofs.Kept.{others_keep_order, setters_keep_order}
use Rattle.debt_defs.proofs.Inside.{seen_inside_above}
use Rattle.debt_defs.proofs.others_keep_their_order.Goals as goal

pub returns : goal.returns
returns c = record { others = others_keep_order; setters = setters_keep_order; inside = seen_inside_above }
