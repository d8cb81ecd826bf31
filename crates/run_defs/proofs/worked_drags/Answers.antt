use Rattle.std.proofs.Common.{refl}
use Rattle.std.specs.Fmt.{digits}
use Rattle.std.specs.Str.{chars}
use Rattle.gui_base.specs.Bits.{has_bit, with_bit}
use Rattle.text_defs.specs.Lines.{lines, run_width, greatest}
use Rattle.scene_defs.specs.Place.{place, reach, offset}
use Rattle.run_defs.specs.Animating.{animate_all}
use Rattle.run_defs.specs.Devices.{press_pointer, hold_pointer, pointer_tells, feed_pointer, press_keypad, keypad_tells, feed_keypad, times, arrow_in, turn_once, turn, edit, edit_by, change_editing, long_push, release_push, press_encoder, encoder_tells, feed_encoder}
use Rattle.run_defs.specs.Dragging.{begin_on, begin, begin_once, put_scroll, scroll_by, follow, begin_drag, follow_drag, serve_drag, end_press, tell_press}
use Rattle.run_defs.specs.Events.{say, act, run_at, send, send_there, send_input}
use Rattle.run_defs.specs.Focusing.{unfocus, refocus, hand_over, move_from, move_focus, step_focus, focus, join, leave}
use Rattle.run_defs.specs.Making.{make, put_state, leave_from, leave_group, forget, made, note, attempt}
use Rattle.run_defs.specs.Play.{with, ◌⊳◌, ◌▷◌, each, aimed}
use Rattle.run_defs.specs.Pointing.{hit}
use Rattle.run_defs.specs.Reactions.{put_value, slide, slide_to, tell_change, tell_after, react, react_input, press, hold, toggle, click, let_up, short_click, release, nudge, check_by, arrow}
use Rattle.run_defs.specs.Step.{step}
use Rattle.run_defs.specs.Ticks.{tick}
use Rattle.run_defs.proofs.worked_drags.Goals as goal

pub returns : goal.returns
unfolding digits chars has_bit with_bit lines run_width greatest place reach offset press_pointer hold_pointer pointer_tells begin_on begin begin_once put_scroll scroll_by follow begin_drag follow_drag serve_drag end_press tell_press feed_pointer press_keypad keypad_tells feed_keypad times arrow_in turn_once turn edit edit_by change_editing long_push release_push press_encoder encoder_tells feed_encoder say act run_at send send_there send_input unfocus refocus hand_over move_from move_focus step_focus focus join leave make put_state leave_from leave_group forget made note attempt with ◌⊳◌ ◌▷◌ each aimed hit put_value slide slide_to tell_change tell_after react react_input press hold toggle click let_up short_click release nudge check_by arrow step tick animate_all
returns c = record {
  quiet = refl;
  too_near = refl;
  by_step = refl;
  to_end = refl;
  back = refl;
  told = refl;
  scrolled = refl;
  let_go = refl;
  goes_on = refl;
  gone = refl;
  across = refl;
  down = refl;
  as_far_down = refl;
  none_across = refl;
  slid = refl;
  another = refl;
}
