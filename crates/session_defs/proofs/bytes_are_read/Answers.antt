use Rattle.session_defs.proofs.Streams.{sessions_are_read, runs_are_seen}
use Rattle.session_defs.proofs.bytes_are_read.Goals as goal

pub returns : goal.returns
returns c = record { read = sessions_are_read; seen = runs_are_seen }
