use Rattle.run_laws.proofs.Flying.{line_keeps_flight, flights_bound}
use Rattle.run_laws.proofs.pumps_are_accounted.Goals as goal

pub returns : goal.returns
returns c = record { line = line_keeps_flight; bound = flights_bound }
