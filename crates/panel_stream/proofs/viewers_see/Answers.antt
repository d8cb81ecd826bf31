use Rattle.panel_stream.proofs.Telling.{shown_is}
use Rattle.panel_stream.proofs.viewers_see.Goals as goal

pub returns : goal.returns
returns c = shown_is
