use Rattle.std.proofs.Common.{refl}
use Rattle.table_checks.proofs.properties.Goals as goal

pub returns-clause-properties : goal.returns-clause-properties
returns-clause-properties c = record {
  rows = refl;
  least = refl;
}

pub returns-clause-states : goal.returns-clause-states
returns-clause-states c = refl

pub returns-clause-flags : goal.returns-clause-flags
returns-clause-flags c = refl
