-- A turn and its number.
use Rattle.std.proofs.Common.{◌≡◌, refl}
use Rattle.panel_dcs.specs.declared.turn.Turn.{Turn}
use Rattle.panel_dcs.specs.declared.turn.Turn.TheVariants.{Upright, Quarter, Half, ThreeQuarters}
use Rattle.panel_dcs.specs.Turning.{quarters, quarters_of}

pub turn-again : (turn : Turn) → quarters (quarters_of turn) ≡ turn
turn-again Upright = refl
turn-again Quarter = refl
turn-again Half = refl
turn-again ThreeQuarters = refl
