use Rattle.panel_dcs.proofs.Remembering.{memory_shows, memory_stays}
use Rattle.panel_dcs.proofs.memory_is_as_shown.Goals as goal

pub returns : goal.returns
returns c = record { shows = memory_shows; outside = memory_stays }
