-- Dragging: a pointer that is down scrolls what its target stands in.
use Rattle.std.specs.Prelude.{ℕ, Bool, true, false, not, ◌&&◌, ◌||◌, nat_le, nat_lt, min, if◌then◌else◌}
use Rattle.std.specs.Prelude.{Some, None, option_map, find, ℤ, pos, ◌-ℤ◌, unsigned_abs}
use Rattle.std.specs.Ordering.{int_eq}
use Rattle.std.specs.declared.option.Option.{Option}
use Rattle.gui_base.specs.declared.Handle.{Handle}
use Rattle.gui_base.specs.declared.events.EventKind.{EventKind}
use Rattle.gui_base.specs.declared.events.EventKind.TheVariants as event
use Rattle.gui_base.specs.declared.words.Flag.TheVariants.{Scrollable}
use Rattle.gui_base.specs.declared.words.State.TheVariants.{Pressed, Scrolled}
use Rattle.layout_defs.specs.Solving.{Span}
use Rattle.play_defs.specs.declared.Drag.{Drag}
use Rattle.play_defs.specs.declared.Scrolling.{Scrolling}
use Rattle.play_defs.specs.declared.TheConstants.{DRAG_AFTER}
use Rattle.scene_defs.specs.declared.Change.TheVariants as change
use Rattle.scene_defs.specs.declared.Row.{Row}
use Rattle.scene_defs.specs.Place.{reach, offset}
use Rattle.scene_defs.specs.Row.{is_on, brought_in}
use Rattle.scene_defs.specs.Scene.{Object, Scene, row_at, path_at}
use Rattle.run_defs.specs.Events.{send_input, takes_input}
use Rattle.run_defs.specs.Machine.{Machine}
use Rattle.run_defs.specs.Making.{make, put_state}
use Rattle.run_defs.specs.Play.{Rule, nothing, ◌▷◌, aimed, with}
use Rattle.run_defs.specs.Reactions.{is_slider, release}

-- whether it is far enough to begin
abbrev pub is_far : Drag → Bool
is_far drag = nat_le DRAG_AFTER (unsigned_abs drag.from_x) || nat_le DRAG_AFTER (unsigned_abs drag.from_y)

-- whether it goes up and down, and not across
abbrev pub goes_down : Drag → Bool
goes_down drag = nat_le (unsigned_abs drag.from_x) (unsigned_abs drag.from_y)

-- The object that is scrolled.

-- of a pair across and down the one of a direction
abbrev pub along : Bool → ℕ × ℕ → ℕ
along true both = both.1
along false both = both.0

-- across and down, nothing where there is no object
abbrev pub pair_of : Option Span → ℕ × ℕ
pair_of None = (0, 0)
pair_of (Some span) = (span.across, span.down)

-- how far the children of h reach out of its content area across and down, in pixels
abbrev pub reach_of : Scene → ℕ → ℕ × ℕ
reach_of scene h = pair_of (reach scene h)

-- how far h moves its children across and down, in pixels
abbrev pub offset_of : Scene → ℕ → ℕ × ℕ
offset_of scene h = pair_of (offset scene h)

-- whether an object is scrollable, and its children reach out of it in this direction
abbrev pub can_scroll : Scene → Bool → Object → Bool
can_scroll scene down object =
    is_on object.row.flags Scrollable && nat_lt 0 (along down (reach_of scene object.handle))

-- the handle of an object
abbrev named : Object → Handle
named object = record { 0 = object.handle }

-- the first of h, its parent and so on that can be scrolled in this direction
abbrev pub scrolled_from : Scene → Bool → Handle → Option Handle
scrolled_from scene down h = option_map named (find (can_scroll scene down) (path_at scene h.0))

-- The beginning.

-- whether there is an object that is a slider
abbrev pub is_slider_row : Option Row → Bool
is_slider_row None = false
is_slider_row (Some row) = is_slider row.kind

-- whether a drag on this target scrolls: it takes input, and is no slider
abbrev pub may_scroll : Scene → Drag → Handle → Bool
may_scroll scene drag target =
    takes_input scene target && (not (is_slider_row (row_at scene target.0)) && is_far drag)

-- the machine whose pointer scrolls this, or nothing
abbrev pub scrolls : Option Scrolling → Machine → Machine
scrolls scrolling machine = record machine { scrolling = scrolling }

-- scrolling begins, if there is something to scroll
unfoldable pub begin_on : Bool → Option Handle → Rule
begin_on down None = nothing
begin_on down (Some h) =
    with (scrolls (Some (record { object = Some h; down = down }))) ▷ put_state Scrolled true h

-- a drag on a target begins to scroll, where it may
unfoldable pub begin : Drag → Handle → Rule
begin drag target machine =
    (if may_scroll machine.scene drag target then
    begin_on (goes_down drag) (scrolled_from machine.scene (goes_down drag) target)
    else nothing) machine

-- once in a press
unfoldable pub begin_once : Option Scrolling → Drag → Option Handle → Rule
begin_once None drag target = aimed target (begin drag)
begin_once (Some scrolling) drag target = nothing

-- The steps.

-- an offset after a step, within what the children reach and what may be stored
abbrev pub stepped : ℕ → ℤ → ℕ → ℤ
stepped offset step reach = brought_in (pos 0) (pos (min reach 8191)) (pos offset -ℤ step)

-- an object of this row is to be scrolled so far; no change where it is so already
abbrev pub make_scroll : Row → ℤ → ℤ → Handle → Rule
make_scroll row x y h =
    if int_eq x row.scroll_x && int_eq y row.scroll_y then nothing else make (change.Scroll h x y)

-- the same of an object that may not be there
abbrev pub put_scroll_in : Option Row → ℤ → ℤ → Handle → Rule
put_scroll_in None x y h = nothing
put_scroll_in (Some row) x y h = make_scroll row x y h

-- an object is to be scrolled so far; no change where it is so already
unfoldable pub put_scroll : ℤ → ℤ → Handle → Rule
put_scroll x y h machine = put_scroll_in (row_at machine.scene h.0) x y h machine

-- in the direction of scrolling it goes by the step, and in the other it is as it takes effect
abbrev pub scroll_in : Bool → ℕ × ℕ → ℕ × ℕ → Drag → Handle → Rule
scroll_in true offset reach drag h = put_scroll (pos offset.0) (stepped offset.1 drag.step_y reach.1) h
scroll_in false offset reach drag h = put_scroll (stepped offset.0 drag.step_x reach.0) (pos offset.1) h

-- h is scrolled by the last step of a drag
unfoldable pub scroll_by : Bool → Drag → Handle → Rule
scroll_by down drag h machine =
    scroll_in down (offset_of machine.scene h.0) (reach_of machine.scene h.0) drag h machine

-- what is scrolled follows a drag
unfoldable pub follow : Option Scrolling → Drag → Rule
follow None drag = nothing
follow (Some scrolling) drag = aimed scrolling.object (scroll_by scrolling.down drag)

-- a pointer that is down has gone on
unfoldable pub begin_drag : Drag → Rule
begin_drag drag machine = begin_once machine.scrolling drag machine.pointer.target machine

-- what the machine scrolls follows a drag
unfoldable pub follow_drag : Drag → Rule
follow_drag drag machine = follow machine.scrolling drag machine

-- a drag begins to scroll where nothing is scrolled yet, and what is scrolled follows it
unfoldable pub serve_drag : Drag → Rule
serve_drag drag = begin_drag drag ▷ follow_drag drag

-- The end of a press: where it scrolled, the target is not clicked.
unfoldable pub end_press : Option Scrolling → Bool → Option Handle → Rule
end_press None long target = aimed target (release long)
end_press (Some scrolling) long target =
    aimed target (put_state Pressed false) ▷ aimed scrolling.object (put_state Scrolled false)
    ▷ aimed target (send_input event.Released)

-- what time makes of a press comes to nothing where it scrolls
unfoldable pub tell_press : Option Scrolling → EventKind → Option Handle → Rule
tell_press None kind target = aimed target (send_input kind)
tell_press (Some scrolling) kind target = nothing
