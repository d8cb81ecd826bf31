use Rattle.layout_defs.proofs.Tracks.{items_keep_order, tracks_hold_items, one_track}
use Rattle.layout_defs.proofs.laws.items_keep_their_order.Goals as goal

pub returns : goal.returns
returns c = record { order = items_keep_order; some = tracks_hold_items; one = one_track }
