-- What holds of some rules, and of rules that are made of such, holds of all that machines play: first of the rules that set no
-- focus, no target and nothing that is scrolled, and with those that do of all.
use Rattle.std.proofs.Common.{◌≡◌, refl, ℕ, zero, suc, Bool, true, false, Option, Some, None, List, [], ◌∷◌, filter}
use Rattle.std.specs.Prelude.{ℤ, pos, int_lt, unsigned_abs, not, ◌&&◌, if◌then◌else◌, ◌-◌}
use Rattle.std.specs.Ordering.{int_eq}
use Rattle.gui_base.specs.Area.{Rect}
use Rattle.gui_base.specs.declared.Handle.{Handle}
use Rattle.gui_base.specs.declared.events.Action.{Action}
use Rattle.gui_base.specs.declared.events.Var.{Var}
use Rattle.gui_base.specs.declared.events.Var.TheVariants.{X, Y, Width, Height, Value}
use Rattle.gui_base.specs.declared.events.EventKind.{EventKind}
use Rattle.gui_base.specs.declared.events.EventKind.TheVariants as event
use Rattle.gui_base.specs.declared.events.Key.{Key}
use Rattle.gui_base.specs.declared.words.Flag.TheVariants.{Checkable}
use Rattle.gui_base.specs.declared.words.Length.{Length}
use Rattle.gui_base.specs.declared.words.Length.TheVariants.{Pixels}
use Rattle.gui_base.specs.declared.words.State.{State}
use Rattle.gui_base.specs.declared.words.State.TheVariants.{Checked, Pressed, Focused, FocusKey, Scrolled, Edited}
use Rattle.play_defs.specs.Animation.{value_at as anim_value}
use Rattle.play_defs.specs.Focus.{Groups, group_at, is_editing, left, with_editing, with_group}
use Rattle.play_defs.specs.declared.Handler.{Handler}
use Rattle.play_defs.specs.Input.{pointer_fed, keypad_fed, encoder_fed}
use Rattle.play_defs.specs.declared.Anim.{Anim}
use Rattle.play_defs.specs.declared.AnimSpec.{AnimSpec}
use Rattle.play_defs.specs.declared.AnimValue.{AnimValue}
use Rattle.play_defs.specs.declared.AnimValue.TheVariants.{Before, Now, Last}
use Rattle.play_defs.specs.declared.EncoderReading.{EncoderReading}
use Rattle.play_defs.specs.declared.Group.{Group}
use Rattle.play_defs.specs.declared.InputEvent.{InputEvent}
use Rattle.play_defs.specs.declared.InputEvent.TheVariants.{Press as Presses, Hold, Release, Long, Repeat, Key as Keyed, Turn, Next, Prev}
use Rattle.play_defs.specs.declared.KeyReading.{KeyReading}
use Rattle.play_defs.specs.declared.PointerReading.{PointerReading}
use Rattle.scene_defs.specs.declared.Change.{Change}
use Rattle.scene_defs.specs.declared.Change.TheVariants as change
use Rattle.scene_defs.specs.declared.Row.{Row}
use Rattle.scene_defs.specs.Row.{brought_in}
use Rattle.scene_defs.specs.Scene.{Scene, is_there, row_at}
use Rattle.run_defs.specs.declared.ControlValue.{ControlValue}
use Rattle.run_defs.specs.Animating.{pixels, is_pixels, unless_so, var_change, make_some, put_var_in, put_var, put_anim, animate, without_ended, animate_all}
use Rattle.play_defs.specs.declared.Drag.{Drag}
use Rattle.play_defs.specs.declared.Scrolling.{Scrolling}
use Rattle.run_defs.specs.Dragging.{begin, begin_once, stepped, put_scroll_in, put_scroll, scroll_in, offset_of, reach_of, scroll_by, follow, begin_drag, follow_drag, serve_drag, end_press, tell_press}
use Rattle.run_defs.specs.Devices.{hit_by, press_pointer, hold_pointer, pointer_tells, pointer_holds, feed_pointer, focused_at, press_keypad, keypad_tells, keypad_holds, feed_keypad}
use Rattle.run_defs.specs.Devices.{times, arrow_in, arrow_to, turn_once, turn, edit, edit_by, change_editing, long_push, release_push, press_encoder, encoder_tells, encoder_holds, feed_encoder}
use Rattle.run_defs.specs.Events.{path, actions_at, asked, say_or_change, act, run_at, send, send_there, send_input, takes_input}
use Rattle.run_defs.specs.Focusing.{unfocus, refocus, has_focus, focus, join, leave, step_focus}
use Rattle.run_defs.specs.Machine.{Machine}
use Rattle.run_defs.specs.Making.{make, made, put_state, is_same, is_in_state, with_groups, leave_group}
use Rattle.run_defs.specs.Play.{Rule, nothing, with, ◌▷◌, each, aimed}
use Rattle.run_defs.specs.Pointing.{is_flagged, content, value_at}
use Rattle.run_defs.specs.Reactions.{put_value_in, put_value, is_slider, slide_in, slide_by, slide, slide_to, control_value_of, differs, tell_change, tell_after, react, react_input}
use Rattle.run_defs.specs.Reactions.{press, hold, toggle, click, let_up, short_click, release, goes_up, nudge_by, nudge, check_by, arrow}
use Rattle.run_defs.specs.Step.{handler_added, handlers_dropped, keypad_in, encoder_in, anim_started, down_at, lifted, rule_of}
use Rattle.run_defs.specs.Ticks.{later, tick}
use Rattle.run_defs.specs.declared.Command.{Command}
use Rattle.run_defs.specs.declared.Command.TheVariants as ask

pub good_if : (Good : Rule → Type 0) (b : Bool) (first second : Rule) → Good first → Good second → Good (if b then first else second)
good_if Good true first second h k = h
good_if Good false first second h k = k

pub good_each : {A : Type 0} (Good : Rule → Type 0) → Good nothing → ((first second : Rule) → Good first → Good second → Good (first ▷ second)) →
    (rule : A → Rule) → ((x : A) → Good (rule x)) → (xs : List A) → Good (each rule xs)
unfolding each
good_each Good none next rule h [] = none
good_each Good none next rule h (x ∷ xs) = next (rule x) (each rule xs) (h x) (good_each Good none next rule h xs)

-- a state that is put, where it is not so already
pub good_put : (Good : Rule → Type 0) → Good nothing → ((f : Machine → Rule) → ((m : Machine) → Good (f m)) → Good (λ m. f m m)) → (state : State) (on : Bool) (h : Handle) →
    Good (make (change.State h state on)) → Good (put_state state on h)
unfolding put_state
good_put Good none look state on h good =
    look (λ m. if is_same (is_in_state state m.scene h) on then nothing else make (change.State h state on))
    (λ m. good_if Good (is_same (is_in_state state m.scene h) on) nothing (make (change.State h state on)) none good)

-- what of a machine rules of input and time leave that only pass on, what time does to animations apart
abbrev pub Standing : Type 0
Standing = Scene × List (List Handler) × Groups × List Anim × Option Handle × Option Scrolling × Option Handle × Option Handle

abbrev pub seen_of : Machine → Standing
seen_of m = (m.scene, m.handlers, m.groups, m.anims, m.pointer.target, m.scrolling, m.keypad.target, m.encoder.target)

-- what holds of these rules, and goes on holding as rules follow one another, and as they look at the machine
pub record IsSteady (Good : Rule → Type 0) : Type 0 where
  pub none : Good nothing
  pub next : (first second : Rule) → Good first → Good second → Good (first ▷ second)
  pub look : (f : Machine → Rule) → ((m : Machine) → Good (f m)) → Good (λ m. f m m)
  pub still : (f : Machine → Machine) → ((m : Machine) → seen_of (f m) ≡ seen_of m) → Good (with f)
  pub fewer : (kept : Machine → Anim → Bool) → Good (with (λ m. record m { anims = filter (kept m) m.anims }))
  pub editing : (id : ℕ) (on : Bool) → Good (with_groups (λ groups. with_editing groups id on))
  pub value : (h : Handle) (n : ℤ) → Good (make (change.Value h n))
  pub place : (h : Handle) (x y : ℤ) → Good (make (change.Pos h x y))
  pub size : (h : Handle) (width height : Length) → Good (make (change.Size h width height))
  pub scroll : (h : Handle) (x y : ℤ) → Good (make (change.Scroll h x y))
  pub state : (h : Handle) (state : State) (on : Bool) → Good (make (change.State h state on))
  -- what an action does, and leaving a group
  pub acted : (kind : EventKind) (target current : Handle) (a : Action) → Good (say_or_change kind target current (asked target a))
  pub left : (h : Handle) → Good (leave_group h)

module _ (Good : Rule → Type 0) (c : IsSteady Good) where
  pub good_all : {A : Type 0} (rule : A → Rule) → ((x : A) → Good (rule x)) → (xs : List A) → Good (each rule xs)
  good_all rule h xs = good_each Good c.none c.next rule h xs

  pub put : (state : State) (on : Bool) (h : Handle) → Good (put_state state on h)
  put state on h = good_put Good c.none c.look state on h (c.state h state on)

  pub good_aimed : (rule : Handle → Rule) → ((h : Handle) → Good (rule h)) → (target : Option Handle) → Good (aimed target rule)
  unfolding aimed
  good_aimed rule h None = c.none
  good_aimed rule h (Some k) = h k

  -- Events.

  good_act : (kind : EventKind) (target current : Handle) (a : Action) → Good (act kind target current a)
  unfolding act
  good_act kind target current a =
      c.look (λ m. if is_there m.scene current.0 then say_or_change kind target current (asked target a) else nothing)
      (λ m. good_if Good (is_there m.scene current.0) _ nothing (c.acted kind target current a) c.none)

  good_run : (kind : EventKind) (target current : Handle) → Good (run_at kind target current)
  unfolding run_at
  good_run kind target current =
      c.look (λ m. each (act kind target current) (actions_at m current kind)) (λ m. good_all (act kind target current) (good_act kind target current) (actions_at m current kind))

  good_send : (kind : EventKind) (target : Handle) → Good (send kind target)
  unfolding send
  good_send kind target = c.look (λ m. each (run_at kind target) (path m.scene target)) (λ m. good_all (run_at kind target) (good_run kind target) (path m.scene target))

  pub good_send_there : (kind : EventKind) (h : Handle) → Good (send_there kind h)
  unfolding send_there
  good_send_there kind h = c.look (λ m. if is_there m.scene h.0 then send kind h else nothing) (λ m. good_if Good (is_there m.scene h.0) (send kind h) nothing (good_send kind h) c.none)

  good_send_input : (kind : EventKind) (h : Handle) → Good (send_input kind h)
  unfolding send_input
  good_send_input kind h = c.look (λ m. if takes_input m.scene h then send kind h else nothing) (λ m. good_if Good (takes_input m.scene h) (send kind h) nothing (good_send kind h) c.none)

  -- Focus.

  pub good_unfocus : (h : Handle) → Good (unfocus h)
  unfolding unfocus
  good_unfocus h = c.next _ _ (c.next _ _ (put Focused false h) (put FocusKey false h)) (put Edited false h)

  pub good_refocus : (by_key : Bool) (h : Handle) → Good (refocus by_key h)
  unfolding refocus
  good_refocus by_key h = c.next _ _ (put Focused true h) (good_if Good by_key _ _ (put FocusKey true h) c.none)

  good_leave : (h : Handle) → Good (leave h)
  unfolding leave
  good_leave h =
      c.look (λ m. (if has_focus m.groups h then unfocus h else nothing) ▷ leave_group h)
      (λ m. c.next _ _ (good_if Good (has_focus m.groups h) _ _ (good_unfocus h) c.none) (c.left h))

  -- Values.

  good_put_value_in : (row : Option Row) (n : ℤ) (h : Handle) → Good (put_value_in row n h)
  good_put_value_in None n h = c.none
  good_put_value_in (Some row) n h =
      let value = brought_in row.min row.max n in
      good_if Good (int_eq value row.value) nothing (make (change.Value h value)) c.none (c.value h value)

  good_put_value : (n : ℤ) (h : Handle) → Good (put_value n h)
  unfolding put_value
  good_put_value n h = c.look (λ m. put_value_in (row_at m.scene h.0) n h) (λ m. good_put_value_in (row_at m.scene h.0) n h)

  good_slide_in : (row : Row) (area : Option Rect) (x : ℤ) (h : Handle) → Good (slide_in row area x h)
  good_slide_in row None x h = c.none
  good_slide_in row (Some area) x h = good_put_value (value_at row area x) h

  good_slide_by : (row : Option Row) (area : Option Rect) (x : ℤ) (h : Handle) → Good (slide_by row area x h)
  good_slide_by None area x h = c.none
  good_slide_by (Some row) area x h = good_if Good (is_slider row.kind) (slide_in row area x h) nothing (good_slide_in row area x h) c.none

  good_slide : (x : ℤ) (h : Handle) → Good (slide x h)
  unfolding slide
  good_slide x h = c.look (λ m. slide_by (row_at m.scene h.0) (content m.scene h.0) x h) (λ m. good_slide_by (row_at m.scene h.0) (content m.scene h.0) x h)

  good_slide_to : (at : Option PointerReading) (h : Handle) → Good (slide_to at h)
  unfolding slide_to
  good_slide_to None h = c.none
  good_slide_to (Some reading) h = good_slide reading.x h

  -- Reactions.

  good_tell_change : (changed : Bool) (h : Handle) → Good (tell_change changed h)
  unfolding tell_change
  good_tell_change true h = good_send_there event.ValueChanged h
  good_tell_change false h = c.none

  good_tell : (before : ControlValue) (kind : EventKind) (h : Handle) → Good (tell_after before kind h)
  unfolding tell_after
  good_tell before kind h =
      c.look (λ m. send kind h ▷ tell_change (differs before (control_value_of m.scene h)) h)
      (λ m. c.next _ _ (good_send kind h) (good_tell_change (differs before (control_value_of m.scene h)) h))

  good_react : (reaction : Rule) → Good reaction → (kind : EventKind) (h : Handle) → Good (react reaction kind h)
  unfolding react
  good_react reaction good kind h = c.look (λ m. reaction ▷ tell_after (control_value_of m.scene h) kind h) (λ m. c.next _ _ good (good_tell (control_value_of m.scene h) kind h))

  good_react_input : (reaction : Rule) → Good reaction → (kind : EventKind) (h : Handle) → Good (react_input reaction kind h)
  unfolding react_input
  good_react_input reaction good kind h =
      c.look (λ m. if takes_input m.scene h then react reaction kind h else nothing)
      (λ m. good_if Good (takes_input m.scene h) (react reaction kind h) nothing (good_react reaction good kind h) c.none)

  pub good_press : (at : Option PointerReading) (h : Handle) → Good (press at h)
  unfolding press
  good_press at h = good_react_input _ (c.next _ _ (put Pressed true h) (good_slide_to at h)) event.Pressed h

  good_hold : (at : Option PointerReading) (h : Handle) → Good (hold at h)
  unfolding hold
  good_hold at h = good_react_input _ (good_slide_to at h) event.Pressing h

  good_toggle : (h : Handle) → Good (toggle h)
  unfolding toggle
  good_toggle h =
      c.look (λ m. if is_flagged Checkable m.scene h then put_state Checked (not (is_in_state Checked m.scene h)) h else nothing)
      (λ m. good_if Good (is_flagged Checkable m.scene h) _ nothing (put Checked (not (is_in_state Checked m.scene h)) h) c.none)

  good_click : (h : Handle) → Good (click h)
  unfolding click
  good_click h = good_react_input _ (good_toggle h) event.Clicked h

  good_let_up : (h : Handle) → Good (let_up h)
  unfolding let_up
  good_let_up h = c.next _ _ (put Pressed false h) (good_send_input event.Released h)

  good_short : (long : Bool) (h : Handle) → Good (short_click long h)
  unfolding short_click
  good_short true h = c.none
  good_short false h = good_send_input event.ShortClicked h

  good_release : (long : Bool) (h : Handle) → Good (release long h)
  unfolding release
  good_release long h = c.next _ _ (c.next _ _ (good_let_up h) (good_short long h)) (good_click h)

  good_nudge_by : (row : Option Row) (key : Key) (h : Handle) → Good (nudge_by row key h)
  good_nudge_by None key h = c.none
  good_nudge_by (Some row) key h = good_if Good (is_slider row.kind) _ nothing (good_put_value _ h) c.none

  good_nudge : (key : Key) (h : Handle) → Good (nudge key h)
  unfolding nudge
  good_nudge key h = c.look (λ m. nudge_by (row_at m.scene h.0) key h) (λ m. good_nudge_by (row_at m.scene h.0) key h)

  good_check : (key : Key) (h : Handle) → Good (check_by key h)
  unfolding check_by
  good_check key h =
      c.look (λ m. if is_flagged Checkable m.scene h then put_state Checked (goes_up key) h else nothing)
      (λ m. good_if Good (is_flagged Checkable m.scene h) _ nothing (put Checked (goes_up key) h) c.none)

  good_arrow : (key : Key) (h : Handle) → Good (arrow key h)
  unfolding arrow
  good_arrow key h = good_react_input _ (c.next _ _ (good_nudge key h) (good_check key h)) event.Key h

  -- Dragging.

  good_put_scroll_in : (row : Option Row) (x y : ℤ) (h : Handle) → Good (put_scroll_in row x y h)
  good_put_scroll_in None x y h = c.none
  good_put_scroll_in (Some row) x y h = good_if Good (int_eq x row.scroll_x && int_eq y row.scroll_y) nothing (make (change.Scroll h x y)) c.none (c.scroll h x y)

  good_put_scroll : (x y : ℤ) (h : Handle) → Good (put_scroll x y h)
  unfolding put_scroll
  good_put_scroll x y h = c.look (λ m. put_scroll_in (row_at m.scene h.0) x y h) (λ m. good_put_scroll_in (row_at m.scene h.0) x y h)

  good_scroll_in : (down : Bool) (offset reach : ℕ × ℕ) (drag : Drag) (h : Handle) → Good (scroll_in down offset reach drag h)
  good_scroll_in true offset reach drag h = good_put_scroll (pos offset.0) (stepped offset.1 drag.step_y reach.1) h
  good_scroll_in false offset reach drag h = good_put_scroll (stepped offset.0 drag.step_x reach.0) (pos offset.1) h

  good_scroll_by : (down : Bool) (drag : Drag) (h : Handle) → Good (scroll_by down drag h)
  unfolding scroll_by
  good_scroll_by down drag h =
      c.look (λ m. scroll_in down (offset_of m.scene h.0) (reach_of m.scene h.0) drag h) (λ m. good_scroll_in down (offset_of m.scene h.0) (reach_of m.scene h.0) drag h)

  good_follow : (scrolling : Option Scrolling) (drag : Drag) → Good (follow scrolling drag)
  unfolding follow
  good_follow None drag = c.none
  good_follow (Some scrolling) drag = good_aimed (scroll_by scrolling.down drag) (good_scroll_by scrolling.down drag) scrolling.object

  good_end_press : (scrolling : Option Scrolling) (long : Bool) (target : Option Handle) → Good (end_press scrolling long target)
  unfolding end_press
  good_end_press None long target = good_aimed (release long) (good_release long) target
  good_end_press (Some scrolling) long target =
      c.next _ _ (c.next _ _ (good_aimed (put_state Pressed false) (put Pressed false) target) (good_aimed (put_state Scrolled false) (put Scrolled false) scrolling.object))
      (good_aimed (send_input event.Released) (good_send_input event.Released) target)

  good_tell_press : (scrolling : Option Scrolling) (kind : EventKind) (target : Option Handle) → Good (tell_press scrolling kind target)
  unfolding tell_press
  good_tell_press None kind target = good_aimed (send_input kind) (good_send_input kind) target
  good_tell_press (Some scrolling) kind target = c.none

  -- The pointer.

  good_hold_pointer : (at : Option PointerReading) → Good (hold_pointer at)
  unfolding hold_pointer
  good_hold_pointer at = c.look (λ m. aimed m.pointer.target (hold at)) (λ m. good_aimed (hold at) (good_hold at) m.pointer.target)

  -- The encoder.

  good_times : (n : ℕ) (rule : Rule) → Good rule → Good (times n rule)
  unfolding times
  good_times zero rule good = c.none
  good_times (suc n) rule good = c.next rule (times n rule) good (good_times n rule good)

  good_arrow_in : (key : Key) (id : ℕ) → Good (arrow_in key id)
  unfolding arrow_in
  good_arrow_in key id = c.look (λ m. aimed (focused_at m id) (arrow key)) (λ m. good_aimed (arrow key) (good_arrow key) (focused_at m id))

  good_edit : (on : Bool) (id : ℕ) (h : Handle) → Good (edit on id h)
  unfolding edit
  good_edit on id h = c.next _ _ (c.editing id on) (put Edited on h)

  good_edit_by : (editing : Bool) (id : ℕ) (h : Handle) → Good (edit_by editing id h)
  unfolding edit_by
  good_edit_by true id h = good_edit false id h
  good_edit_by false id h = c.look (λ m. if takes_input m.scene h then edit true id h else nothing) (λ m. good_if Good (takes_input m.scene h) (edit true id h) nothing (good_edit true id h) c.none)

  good_change_editing : (id : ℕ) → Good (change_editing id)
  unfolding change_editing
  good_change_editing id =
      c.look (λ m. aimed (focused_at m id) (edit_by (is_editing (group_at m.groups id)) id))
      (λ m. good_aimed _ (good_edit_by (is_editing (group_at m.groups id)) id) (focused_at m id))

  good_long_push : (target : Option Handle) (id : ℕ) → Good (long_push target id)
  unfolding long_push
  good_long_push None id = c.none
  good_long_push (Some target) id = good_change_editing id

  good_release_push : (long : Bool) (h : Handle) → Good (release_push long h)
  unfolding release_push
  good_release_push true h = good_let_up h
  good_release_push false h = good_release false h

  -- Animations.

  good_unless : (so : Bool) (change : Change) → Good (make change) → Good (make_some (unless_so so change))
  good_unless true change good = c.none
  good_unless false change good = good

  good_var_change : (var : Var) (row : Row) (n : ℤ) (h : Handle) → Good (make_some (var_change var row n h))
  good_var_change X row n h = good_unless (int_eq n row.x) _ (c.place h n row.y)
  good_var_change Y row n h = good_unless (int_eq n row.y) _ (c.place h row.x n)
  good_var_change Width row n h = good_unless (is_pixels (pixels n) row.width) _ (c.size h (Pixels (pixels n)) row.height)
  good_var_change Height row n h = good_unless (is_pixels (pixels n) row.height) _ (c.size h row.width (Pixels (pixels n)))
  good_var_change Value row n h =
      let value : ℤ = brought_in row.min row.max n in
      good_unless (int_eq value row.value) _ (c.value h value)

  good_put_var_in : (var : Var) (row : Option Row) (n : ℤ) (h : Handle) → Good (put_var_in var row n h)
  good_put_var_in var None n h = c.none
  good_put_var_in var (Some row) n h = good_var_change var row n h

  good_put_var : (var : Var) (n : ℤ) (h : Handle) → Good (put_var var n h)
  unfolding put_var
  good_put_var var n h = c.look (λ m. put_var_in var (row_at m.scene h.0) n h) (λ m. good_put_var_in var (row_at m.scene h.0) n h)

  good_put_anim : (spec : AnimSpec) (value : AnimValue) → Good (put_anim spec value)
  good_put_anim spec Before = c.none
  good_put_anim spec (Now n) = good_put_var spec.var n spec.h
  good_put_anim spec (Last n) = good_put_var spec.var n spec.h

  good_animate : (anim : Anim) → Good (animate anim)
  unfolding animate
  good_animate anim = c.look (λ m. put_anim anim.spec (anim_value anim.spec (m.time - anim.started))) (λ m. good_put_anim anim.spec (anim_value anim.spec (m.time - anim.started)))

  good_animate_all : Good animate_all
  unfolding animate_all
  good_animate_all =
      c.look (λ m. each animate m.anims ▷ with without_ended)
      (λ m. c.next _ _ (good_all animate good_animate m.anims) (c.fewer _))

-- the same of the rules that set a focus, a target or what is scrolled
pub record IsPlayed (Good : Rule → Type 0) : Type 0 where
  pub steady : IsSteady Good
  pub focused : (h : Handle) → Good (focus h)
  pub stepped : (forwards : Bool) (id : ℕ) → Good (step_focus forwards id)
  pub begun : (drag : Drag) (h : Handle) → Good (begin drag h)
  pub pressed : (at : Option PointerReading) → Good (λ m. press_pointer at (hit_by at m.scene) m)
  pub keyed : Good (λ m. press_keypad (focused_at m m.keypad_group) m)
  pub pushed : Good (λ m. press_encoder (focused_at m m.encoder_group) m)

module _ (Good : Rule → Type 0) (p : IsPlayed Good) where
  c : IsSteady Good
  c = p.steady

  good_begin_once : (scrolling : Option Scrolling) (drag : Drag) (target : Option Handle) → Good (begin_once scrolling drag target)
  unfolding begin_once
  good_begin_once None drag target = good_aimed Good c (begin drag) (p.begun drag) target
  good_begin_once (Some scrolling) drag target = c.none

  good_serve_drag : (drag : Drag) → Good (serve_drag drag)
  unfolding serve_drag begin_drag follow_drag
  good_serve_drag drag =
      c.next _ _ (c.look (λ m. begin_once m.scrolling drag m.pointer.target) (λ m. good_begin_once m.scrolling drag m.pointer.target))
      (c.look (λ m. follow m.scrolling drag) (λ m. (good_follow Good c) m.scrolling drag))

  good_pointer : (at : Option PointerReading) (told : InputEvent) → Good (pointer_tells at told)
  unfolding pointer_tells
  good_pointer at Presses = p.pressed at
  good_pointer at (Hold from_x from_y step_x step_y) =
      let drag : Drag = record { from_x = from_x; from_y = from_y; step_x = step_x; step_y = step_y } in
      c.next (serve_drag drag) (hold_pointer at) (good_serve_drag drag) (good_hold_pointer Good c at)
  good_pointer at (Release long) = c.look (λ m. end_press m.scrolling long m.pointer.target) (λ m. (good_end_press Good c) m.scrolling long m.pointer.target)
  good_pointer at Long = c.look (λ m. tell_press m.scrolling event.LongPressed m.pointer.target) (λ m. (good_tell_press Good c) m.scrolling event.LongPressed m.pointer.target)
  good_pointer at Repeat = c.look (λ m. tell_press m.scrolling event.LongPressedRepeat m.pointer.target) (λ m. (good_tell_press Good c) m.scrolling event.LongPressedRepeat m.pointer.target)
  good_pointer at other = c.none

  good_feed_pointer : (reading : Option PointerReading) → Good (feed_pointer reading)
  unfolding feed_pointer
  good_feed_pointer reading =
      c.look (λ m. with (pointer_holds (pointer_fed m.pointer.held reading m.time).device) ▷ each (pointer_tells reading) (pointer_fed m.pointer.held reading m.time).tells)
      (λ m. c.next _ _ (c.still _ (λ m. refl)) (good_all Good c (pointer_tells reading) (good_pointer reading) (pointer_fed m.pointer.held reading m.time).tells))

  good_keypad : (told : InputEvent) → Good (keypad_tells told)
  unfolding keypad_tells
  good_keypad Presses = p.keyed
  good_keypad (Release long) = c.look (λ m. aimed m.keypad.target (release long)) (λ m. (good_aimed Good c) (release long) (good_release Good c long) m.keypad.target)
  good_keypad Long = c.look (λ m. aimed m.keypad.target (send_input event.LongPressed)) (λ m. (good_aimed Good c) _ (good_send_input Good c event.LongPressed) m.keypad.target)
  good_keypad Repeat = c.look (λ m. aimed m.keypad.target (send_input event.LongPressedRepeat)) (λ m. (good_aimed Good c) _ (good_send_input Good c event.LongPressedRepeat) m.keypad.target)
  good_keypad (Keyed key) = c.look (λ m. aimed (focused_at m m.keypad_group) (arrow key)) (λ m. (good_aimed Good c) (arrow key) (good_arrow Good c key) (focused_at m m.keypad_group))
  good_keypad Next = c.look (λ m. step_focus true m.keypad_group) (λ m. p.stepped true m.keypad_group)
  good_keypad Prev = c.look (λ m. step_focus false m.keypad_group) (λ m. p.stepped false m.keypad_group)
  good_keypad other = c.none

  good_feed_keypad : (reading : Option KeyReading) → Good (feed_keypad reading)
  unfolding feed_keypad
  good_feed_keypad reading =
      c.look (λ m. with (keypad_holds (keypad_fed m.keypad.held reading m.time).device) ▷ each keypad_tells (keypad_fed m.keypad.held reading m.time).tells)
      (λ m. c.next _ _ (c.still _ (λ m. refl)) (good_all Good c keypad_tells good_keypad (keypad_fed m.keypad.held reading m.time).tells))

  good_turn_once : (editing forwards : Bool) (id : ℕ) → Good (turn_once editing forwards id)
  unfolding turn_once
  good_turn_once true forwards id = good_arrow_in Good c (arrow_to forwards) id
  good_turn_once false forwards id = p.stepped forwards id

  good_turn : (n : ℤ) (id : ℕ) → Good (turn n id)
  unfolding turn
  good_turn n id =
      c.look (λ m. times (unsigned_abs n) (turn_once (is_editing (group_at m.groups id)) (int_lt (pos 0) n) id))
      (λ m. (good_times Good c) (unsigned_abs n) _ (good_turn_once (is_editing (group_at m.groups id)) (int_lt (pos 0) n) id))

  good_encoder : (told : InputEvent) → Good (encoder_tells told)
  unfolding encoder_tells
  good_encoder Presses = p.pushed
  good_encoder (Release long) = c.look (λ m. aimed m.encoder.target (release_push long)) (λ m. (good_aimed Good c) (release_push long) (good_release_push Good c long) m.encoder.target)
  good_encoder Long = c.look (λ m. long_push m.encoder.target m.encoder_group) (λ m. (good_long_push Good c) m.encoder.target m.encoder_group)
  good_encoder (Turn n) = c.look (λ m. turn n m.encoder_group) (λ m. good_turn n m.encoder_group)
  good_encoder other = c.none

  good_feed_encoder : (reading : Option EncoderReading) → Good (feed_encoder reading)
  unfolding feed_encoder
  good_feed_encoder reading =
      c.look (λ m. with (encoder_holds (encoder_fed m.encoder.held reading m.time).device) ▷ each encoder_tells (encoder_fed m.encoder.held reading m.time).tells)
      (λ m. c.next _ _ (c.still _ (λ m. refl)) (good_all Good c encoder_tells good_encoder (encoder_fed m.encoder.held reading m.time).tells))

  good_tick : (ms : ℕ) → Good (tick ms)
  unfolding tick
  good_tick ms =
      c.next _ _
      (c.next _ _ (c.next _ _ (c.next _ _ (c.still (later ms) (λ m. refl)) (good_feed_pointer None)) (good_feed_keypad None)) (good_feed_encoder None))
      (good_animate_all Good c)

  -- what is left to say of a command: of those that add or drop handlers, add groups, members and animations, and of changes
  abbrev pub PlayedRest : Command → Type 0
  PlayedRest (ask.Change change) = Good (made change)
  PlayedRest (ask.On h kind a) = Good (with (handler_added h kind a))
  PlayedRest (ask.Off h kind) = Good (with (handlers_dropped h kind))
  PlayedRest (ask.Group id) = Good (with_groups (λ groups. with_group groups id))
  PlayedRest (ask.Join id h) = Good (join id h)
  PlayedRest (ask.Anim spec) = Good (with (anim_started spec))
  PlayedRest command = Unit {0}

  pub played_rule : (command : Command) → PlayedRest command → Good (rule_of command)
  played_rule (ask.Change change) rest = rest
  played_rule (ask.On h kind a) rest = rest
  played_rule (ask.Off h kind) rest = rest
  played_rule (ask.Send h kind) rest = good_send Good c kind h
  played_rule (ask.Group id) rest = rest
  played_rule (ask.Join id h) rest = rest
  played_rule (ask.Leave h) rest = good_leave Good c h
  played_rule (ask.Focus h) rest = p.focused h
  played_rule (ask.Keypad id) rest = c.still (keypad_in id) (λ m. refl)
  played_rule (ask.Encoder id) rest = c.still (encoder_in id) (λ m. refl)
  played_rule (ask.Touch x y) rest = good_feed_pointer (Some (down_at x y))
  played_rule ask.Release rest = good_feed_pointer (Some lifted)
  played_rule (ask.Key key down) rest = good_feed_keypad _
  played_rule (ask.Turn n) rest = good_feed_encoder _
  played_rule (ask.Push down) rest = good_feed_encoder _
  played_rule (ask.Tick ms) rest = good_tick ms
  played_rule (ask.Anim spec) rest = rest
  played_rule (ask.Stop h var) rest = c.fewer _
