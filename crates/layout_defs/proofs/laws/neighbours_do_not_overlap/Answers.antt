use Rattle.layout_defs.proofs.Stands.{neighbours_apart, items_apart, tracks_apart, lines_fit, items_in_tracks}
use Rattle.layout_defs.proofs.laws.neighbours_do_not_overlap.Goals as goal

pub returns : goal.returns
returns c = record { apart = neighbours_apart; items = items_apart; tracks = tracks_apart; fit = lines_fit; inside = items_in_tracks }
