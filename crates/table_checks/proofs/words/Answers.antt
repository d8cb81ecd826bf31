use Rattle.std.proofs.Common.{refl}
use Rattle.hex.specs.Hex.{decode_pairs}
use Rattle.gui_base.specs.Bits.{with_bit}
use Rattle.gui_base.specs.Names.{named}
use Rattle.run_defs.specs.Commands.{command_says, property, path, repeat_said, var}
use Rattle.run_defs.specs.Fields.{over, value, past}
use Rattle.run_defs.specs.Numbers.{number, natural, color, bytes_said}
use Rattle.run_defs.specs.Script.{line_says}
use Rattle.run_defs.specs.Selectors.{selector_named, state_named}
use Rattle.scene_defs.specs.RowBytes.{bytes_in_hex}
use Rattle.table_checks.proofs.words.Goals as goal

pub returns-clause-words : goal.returns-clause-words
returns-clause-words c = record {
  kinds = refl;
  mean_kinds = refl;
  switches = refl;
  mean_switches = refl;
  parts = refl;
  mean_parts = refl;
  aligns = refl;
  mean_aligns = refl;
  flows = refl;
  mean_flows = refl;
  placings = refl;
  mean_placings = refl;
  cross_placings = refl;
  mean_cross_placings = refl;
  text_aligns = refl;
  mean_text_aligns = refl;
  formats = refl;
  mean_formats = refl;
  events = refl;
  mean_events = refl;
  keys = refl;
  mean_keys = refl;
  pushes = refl;
  mean_pushes = refl;
  vars = refl;
  mean_vars = refl;
  paths = refl;
  mean_paths = refl;
}

pub returns-clause-commands : goal.returns-clause-commands
returns-clause-commands c = record {
  commands = refl;
  actions = refl;
}

pub returns-clause-lines : goal.returns-clause-lines
unfolding decode_pairs with_bit bytes_in_hex named command_says path property repeat_said var over value past number natural color bytes_said line_says selector_named state_named
returns-clause-lines c = refl
