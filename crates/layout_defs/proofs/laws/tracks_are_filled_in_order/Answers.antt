use Rattle.layout_defs.proofs.Tracks.{tracks_fit, tracks_are_full}
use Rattle.layout_defs.proofs.laws.tracks_are_filled_in_order.Goals as goal

pub returns : goal.returns
returns c = record { fit = tracks_fit; full = tracks_are_full }
