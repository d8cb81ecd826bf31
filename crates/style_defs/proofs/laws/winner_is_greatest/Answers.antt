use Rattle.style_defs.proofs.Winners.{winner_is_greatest, none_wins_of_none}
use Rattle.style_defs.proofs.laws.winner_is_greatest.Goals as goal

pub returns : goal.returns
returns c = record { winner = winner_is_greatest; none = none_wins_of_none }
