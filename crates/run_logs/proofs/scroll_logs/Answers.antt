use Rattle.std.proofs.Common.{refl}
use Rattle.std.specs.Fmt.{digits}
use Rattle.std.specs.Str.{chars}
use Rattle.hex.specs.Hex.{decode_pairs}
use Rattle.gui_base.specs.Bits.{has_bit, with_bit}
use Rattle.gui_base.specs.Names.{named}
use Rattle.text_defs.specs.Fonts.{face}
use Rattle.text_defs.specs.Lines.{lines, run_width, greatest}
use Rattle.scene_defs.specs.Place.{place, reach, offset}
use Rattle.run_defs.specs.Commands.{command_says, state, property, align, flow, event, aim_said, action_name, key}
use Rattle.run_defs.specs.Lengths.{length_said}
use Rattle.run_defs.specs.Animating.{animate_all}
use Rattle.run_defs.specs.Devices.{press_pointer, hold_pointer, pointer_tells, feed_pointer, press_keypad, keypad_tells, feed_keypad, times, arrow_in, turn_once, turn, edit, edit_by, change_editing, long_push, release_push, press_encoder, encoder_tells, feed_encoder}
use Rattle.run_defs.specs.Pointing.{hit}
use Rattle.run_defs.specs.Reactions.{put_value, slide, slide_to, tell_change, tell_after, react, react_input, press, hold, toggle, click, let_up, short_click, release, nudge, check_by, arrow}
use Rattle.run_defs.specs.Ticks.{tick}
use Rattle.run_defs.specs.Dragging.{begin_on, begin, begin_once, put_scroll, scroll_by, follow, begin_drag, follow_drag, serve_drag, end_press, tell_press}
use Rattle.run_defs.specs.Events.{say, act, run_at, send, send_there, send_input}
use Rattle.run_defs.specs.Fields.{over, value, past}
use Rattle.run_defs.specs.Focusing.{unfocus, refocus, hand_over, move_from, move_focus, step_focus, focus, join, leave}
use Rattle.run_defs.specs.Making.{make, put_state, leave_from, leave_group, forget, made, note, attempt}
use Rattle.run_defs.specs.Numbers.{number, natural, color}
use Rattle.run_defs.specs.Play.{with, ◌⊳◌, ◌▷◌, each, aimed}
use Rattle.run_defs.specs.Script.{line_says}
use Rattle.run_defs.specs.Selectors.{selector_named, state_named}
use Rattle.run_defs.specs.Step.{step}
use Rattle.run_defs.specs.Words.{with_width, setting_of, sets_a_pool, with_pool, with_further}
use Rattle.run_logs.proofs.scroll_logs.Goals as goal

pub returns-clause-logs : goal.returns-clause-logs
unfolding digits chars face lines run_width greatest place key length_said send_input step_focus reach offset press_pointer hold_pointer pointer_tells begin_on begin begin_once put_scroll scroll_by follow begin_drag follow_drag serve_drag end_press tell_press feed_pointer press_keypad keypad_tells feed_keypad times arrow_in turn_once turn edit edit_by change_editing long_push release_push press_encoder encoder_tells feed_encoder hit put_value slide slide_to tell_change tell_after react react_input press hold toggle click let_up short_click release nudge check_by arrow tick animate_all decode_pairs has_bit with_bit named command_says state property align flow event aim_said action_name say act run_at send send_there over value past unfocus refocus hand_over move_from move_focus focus join leave make put_state leave_from leave_group forget made note attempt number natural color with ◌⊳◌ ◌▷◌ each aimed line_says selector_named state_named step with_width setting_of sets_a_pool with_pool with_further
returns-clause-logs c = record {
  scrolls_1 = refl;
  scrolls_2 = refl;
  scrolls_3 = refl;
  scrolls_4 = refl;
  scrolls_5 = refl;
  scrolls_6 = refl;
  scrolls_7 = refl;
  scrolls_8 = refl;
  scrolls_9 = refl;
  scrolls_10 = refl;
  scrolls_11 = refl;
  scrolls_12 = refl;
}

pub returns-clause-corners : goal.returns-clause-corners
unfolding digits chars face lines run_width greatest place key length_said send_input step_focus reach offset press_pointer hold_pointer pointer_tells begin_on begin begin_once put_scroll scroll_by follow begin_drag follow_drag serve_drag end_press tell_press feed_pointer press_keypad keypad_tells feed_keypad times arrow_in turn_once turn edit edit_by change_editing long_push release_push press_encoder encoder_tells feed_encoder hit put_value slide slide_to tell_change tell_after react react_input press hold toggle click let_up short_click release nudge check_by arrow tick animate_all decode_pairs has_bit with_bit named command_says state property align flow event aim_said action_name say act run_at send send_there over value past unfocus refocus hand_over move_from move_focus focus join leave make put_state leave_from leave_group forget made note attempt number natural color with ◌⊳◌ ◌▷◌ each aimed line_says selector_named state_named step with_width setting_of sets_a_pool with_pool with_further
returns-clause-corners c = record {
  corners_1 = refl;
  corners_2 = refl;
  corners_3 = refl;
}
