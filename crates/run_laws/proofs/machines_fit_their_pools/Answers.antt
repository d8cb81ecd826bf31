use Rattle.run_laws.proofs.Fitting.{first_fits_pools, steps_keep_pools}
use Rattle.run_laws.proofs.machines_fit_their_pools.Goals as goal

pub returns : goal.returns
returns c = record { first = first_fits_pools; step = steps_keep_pools }
