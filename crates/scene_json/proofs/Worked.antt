-- Scenes that were worked out by hand.
use Rattle.std.proofs.Common.{refl}
use Rattle.std.specs.Fmt.{digits}
use Rattle.std.specs.Str.{is_utf8, chars}
use lib.Utf8.{encode}
use Rattle.serde_json.proofs.OnLiterals.{serde_json_on_literals}
use Rattle.hex.specs.Hex.{decode_pairs}
use Rattle.gui_base.specs.Names.{named}
use Rattle.gui_base.specs.Bits.{has_bit, with_bit}
use Rattle.scene_defs.specs.Quoted.{text_in_quotes}
use Rattle.run_defs.specs.Commands.{command_says, state, property}
use Rattle.run_defs.specs.Fields.{value, past, over}
use Rattle.run_defs.specs.Lengths.{length_said}
use Rattle.run_defs.specs.Numbers.{number, natural, color}
use Rattle.run_defs.specs.Script.{line_says}
use Rattle.run_defs.specs.Selectors.{selector_named, state_named}
use Rattle.run_defs.specs.Texts.{text_said}
use Rattle.scene_json.specs.Scenes.{scene, scene_in, node_lines}
use Rattle.scene_json.specs.Words.{prop_named}
use Rattle.scene_json.specs.Writing.{put}
use Rattle.scene_json.specs.Examples.{ScenesAreWorked}

pub scenes_are_worked : ScenesAreWorked
unfolding serde_json_on_literals scene scene_in put node_lines prop_named line_says command_says named value past over number natural color decode_pairs state property length_said selector_named state_named has_bit with_bit text_said text_in_quotes is_utf8 chars encode digits
scenes_are_worked = record {
  label = refl;
  low_id = refl;
  nothing = refl;
  whole = refl;
  no_json = refl;
  a_list = refl;
  other_key = refl;
  no_kind = refl;
  text_of_obj = refl;
  pixels_as_string = refl;
  float = refl;
  three = refl;
  spaced_kind = refl;
  twice = refl;
  state_twice = refl;
  no_selector = refl;
  other_font = refl;
  string_number = refl;
  smuggled = refl;
  last_of_a_key = refl;
}
