use Rattle.run_laws.proofs.Runs.{run_opens, line_keeps_account, account_bounds}
use Rattle.run_laws.proofs.runs_are_accounted.Goals as goal

pub returns : goal.returns
returns c = record { opens = run_opens; line = line_keeps_account; bound = account_bounds }
