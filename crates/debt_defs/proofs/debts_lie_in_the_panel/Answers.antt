use Rattle.debt_defs.proofs.Scenes.{refused_owes_nothing, debt_within_panel, debt_is_round}
use Rattle.debt_defs.proofs.debts_lie_in_the_panel.Goals as goal

pub returns : goal.returns
returns c = record { refused = refused_owes_nothing; within = debt_within_panel; blocks = debt_is_round }
