use Rattle.std.proofs.Common.{refl}
use Rattle.std.specs.Fmt.{digits}
use Rattle.std.specs.Str.{chars}
use Rattle.hex.specs.Hex.{decode_pairs}
use Rattle.gui_base.specs.Bits.{has_bit, with_bit}
use Rattle.gui_base.specs.Color.{mix, mix_channel}
use Rattle.gui_base.specs.Names.{named}
use Rattle.gui_color.specs.Buffer.{place}
use Rattle.style_defs.specs.Book.{no_lists}
use Rattle.play_defs.specs.Handlers.{no_handlers}
use Rattle.text_defs.specs.Fonts.{face}
use Rattle.text_defs.specs.Lines.{lines, run_width, greatest}
use Rattle.scene_defs.specs.Place.{place as place_of}
use Rattle.run_defs.specs.Animating.{animate_all}
use Rattle.run_defs.specs.Commands.{command_says, state, property, align, flow, event, aim_said, action_name}
use Rattle.run_defs.specs.Devices.{press_pointer, pointer_tells, feed_pointer, press_keypad, keypad_tells, feed_keypad, feed_encoder}
use Rattle.run_defs.specs.Events.{say, act, run_at, send, send_there, send_input}
use Rattle.run_defs.specs.Fields.{over, value, past}
use Rattle.run_defs.specs.Lengths.{length_said}
use Rattle.run_defs.specs.Making.{make, put_state, forget, made, note, attempt}
use Rattle.run_defs.specs.Numbers.{number as number_said, natural, color}
use Rattle.run_defs.specs.Play.{with, ◌⊳◌, ◌▷◌, each, aimed}
use Rattle.run_defs.specs.Pointing.{hit}
use Rattle.run_defs.specs.Reactions.{put_value, slide, slide_to, tell_change, tell_after, react, react_input, press, hold, toggle, click, let_up, short_click, release}
use Rattle.run_defs.specs.Script.{line_says}
use Rattle.run_defs.specs.Step.{step}
use Rattle.run_defs.specs.Ticks.{tick}
use Rattle.session_defs.specs.Formats.{number}
use Rattle.session_defs.specs.Parts.{cut}
use Rattle.session_defs.specs.Sessions.{parts, outcome}
use Rattle.session_defs.specs.Updates.{answered}
use Rattle.session_defs.proofs.worked_sessions.Goals as goal

pub returns : goal.returns
unfolding digits chars decode_pairs has_bit with_bit named no_lists no_handlers face lines run_width greatest place_of animate_all press_pointer pointer_tells feed_pointer press_keypad keypad_tells feed_keypad feed_encoder put_value slide slide_to tell_change tell_after react react_input press hold toggle click let_up short_click release command_says state property align flow event aim_said action_name length_said say act run_at send send_there send_input over value past make put_state forget made note attempt number_said natural color with ◌⊳◌ ◌▷◌ each aimed hit line_says step tick mix mix_channel place number cut parts outcome answered
returns c = record {
  whole_output = refl;
  whole_log = refl;
  whole_end = refl;
  changes_output = refl;
  changes_end = refl;
  version_output = refl;
  version_end = refl;
  open_output = refl;
  open_end = refl;
  return_output = refl;
  lone_return_end = refl;
  spaces_end = refl;
  security_output = refl;
  security_end = refl;
  pressed_output = refl;
  pressed_log = refl;
  pressed_end = refl;
  white_read = refl;
  eight_read = refl;
  pressed_read = refl;
  two_pixels_read = refl;
  further_read = refl;
  areas_read = refl;
  raw_read = refl;
}
