use Rattle.std.proofs.Common.{refl}
use Rattle.hex.specs.Hex.{decode_pairs}
use Rattle.gui_base.specs.Bits.{with_bit}
use Rattle.gui_base.specs.Names.{named}
use Rattle.run_defs.specs.Commands.{command_says, property}
use Rattle.run_defs.specs.Fields.{over, value, past}
use Rattle.run_defs.specs.Numbers.{number, natural, color}
use Rattle.run_defs.specs.Script.{line_says}
use Rattle.run_defs.specs.Selectors.{selector_named, state_named}
use Rattle.table_checks.proofs.kinds.Goals as goal

pub returns-clause-rows : goal.returns-clause-rows
returns-clause-rows c = λ kind. refl

pub returns-clause-sets : goal.returns-clause-sets
unfolding decode_pairs with_bit named command_says property over value past number natural color line_says selector_named state_named
returns-clause-sets c = record {
  screen = refl;
  layer = refl;
  object = refl;
  label = refl;
  button = refl;
  image = refl;
  bar = refl;
  slider = refl;
  checkbox = refl;
  list = refl;
  bars = λ kind. refl;
}
