use Rattle.layout_defs.proofs.Near.{places_near}
use Rattle.layout_defs.proofs.laws.places_are_near.Goals as goal

pub returns : goal.returns
returns c = places_near
