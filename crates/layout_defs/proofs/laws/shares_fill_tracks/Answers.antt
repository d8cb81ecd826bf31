use Rattle.layout_defs.proofs.SameTracks.{shares_keep_tracks}
use Rattle.layout_defs.proofs.Shares.{shares_fill_tracks, nothing_shared}
use Rattle.layout_defs.proofs.laws.shares_fill_tracks.Goals as goal

pub returns : goal.returns
returns c = record { filled = shares_fill_tracks; none = nothing_shared; same = shares_keep_tracks }
