-- A log that may fail in a step, after which nothing more is written.
use Rattle.std.specs.Prelude.{◌≡◌, ◌≤◌, ℕ, Bool, true, false, List}
use Rattle.std.specs.Io.KnownBytes.{Appends}
use Rattle.gui_edge.specs.Causes.{Rose}
use Rattle.gui_edge.specs.Sink.{SinkState, AppendsPrefix}

-- The log takes these lines, by whether it has failed before and after. Where it had failed before, nothing
-- is written; where it fails now, a prefix of them is.
abbrev pub WritesBy : Bool → Bool → SinkState → SinkState → List ℕ → Type 0
WritesBy true true old new lines = new ≡ old
WritesBy true false old new lines = ⊥
WritesBy false false old new lines = Appends old.held new.held lines × (old.faults ≤ new.faults)
WritesBy false true old new lines =
    AppendsPrefix old.held new.held lines × Rose old.faults new.faults × (old.faults ≤ new.faults)
