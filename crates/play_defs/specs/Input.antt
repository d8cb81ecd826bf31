-- The three devices before a target is known: what readings and passing time make of them, and what they
-- tell.
use Rattle.std.specs.Prelude.{ℕ, ◌-◌, Bool, true, false, nat_le, if◌then◌else◌, ◌-ℤ◌}
use Rattle.std.specs.Prelude.{List, [], ◌∷◌, ◌++◌, Some, None}
use Rattle.std.specs.declared.option.Option.{Option}
use Rattle.gui_base.specs.declared.events.Key.{Key}
use Rattle.gui_base.specs.declared.events.Key.TheVariants.{Enter, Next as NextKey, Prev as PrevKey}
use Rattle.play_defs.specs.declared.EncoderReading.{EncoderReading}
use Rattle.play_defs.specs.declared.EncoderReading.TheVariants.{Turn as Turned, Push as Pushed}
use Rattle.play_defs.specs.declared.Held.{Held}
use Rattle.play_defs.specs.declared.InputEvent.{InputEvent}
use Rattle.play_defs.specs.declared.InputEvent.TheVariants.{Press as Presses, Hold, Release, Long, Repeat}
use Rattle.play_defs.specs.declared.InputEvent.TheVariants.{Key as Keyed, Turn, Next, Prev}
use Rattle.play_defs.specs.declared.KeyReading.{KeyReading}
use Rattle.play_defs.specs.declared.PointerReading.{PointerReading}
use Rattle.play_defs.specs.declared.Press.{Press}
use Rattle.play_defs.specs.declared.Touch.{Touch}
use Rattle.play_defs.specs.declared.TheConstants.{LONG_AFTER, REPEAT_AFTER}
use Rattle.play_defs.specs.Same.{same_key}

-- a device after a reading or a tick, and what it tells
pub record Fed (Device : Type 0) : Type 0 where
  pub device : Device
  pub tells : List InputEvent

-- a device and what it tells
abbrev pub fed : {Device : Type 0} → Device → List InputEvent → Fed Device
fed device tells = record { device = device; tells = tells }

-- a press that begins at a moment, in milliseconds
abbrev pub pressed_at : ℕ → Press
pressed_at now = record { since = now; long = false; told = now }

-- a press as time passes: it becomes a long one, and then it is repeated; one of the two at most in a tick
abbrev pub held_on : Press → ℕ → Fed Press
held_on press now =
    if press.long then
    (if nat_le REPEAT_AFTER (now - press.told) then fed (record press { told = now }) (Repeat ∷ [])
    else fed press [])
    else
    (if nat_le LONG_AFTER (now - press.since) then
    fed (record press { long = true; told = now }) (Long ∷ [])
    else fed press [])

-- a press that goes on, of a device that may be at rest
abbrev pub still_pressed : Fed Press → Fed (Option Press)
still_pressed after = fed (Some after.device) after.tells

-- The pointer.
-- a press that begins where the pointer is
abbrev pub touch_at : PointerReading → ℕ → Touch
touch_at reading now = record {
  press = pressed_at now;
  from_x = reading.x;
  from_y = reading.y;
  last_x = reading.x;
  last_y = reading.y;
}

-- a press whose pointer has gone there
abbrev pub touch_on : Touch → PointerReading → Touch
touch_on touch reading = record touch { last_x = reading.x; last_y = reading.y }

-- how far it has gone: from where it went down, and from where it was read last
abbrev pub held_to : Touch → PointerReading → InputEvent
held_to touch reading =
    Hold (reading.x -ℤ touch.from_x) (reading.y -ℤ touch.from_y) (reading.x -ℤ touch.last_x)
    (reading.y -ℤ touch.last_y)

-- the pointer after a reading: it goes down, moves on, or goes up
abbrev pub touched : Option Touch → PointerReading → ℕ → Fed (Option Touch)
touched None reading now =
    if reading.down then fed (Some (touch_at reading now)) (Presses ∷ []) else fed None []
touched (Some touch) reading now =
    if reading.down then fed (Some (touch_on touch reading)) (held_to touch reading ∷ [])
    else fed None (Release touch.press.long ∷ [])

-- the press of a pointer that goes on as time passes
abbrev pub still_touched : Touch → Fed Press → Fed (Option Touch)
still_touched touch after = fed (Some (record touch { press = after.device })) after.tells

-- the pointer as time passes
abbrev pub waited : Option Touch → ℕ → Fed (Option Touch)
waited None now = fed None []
waited (Some touch) now = still_touched touch (held_on touch.press now)

-- the pointer after a reading, or after a tick where there is none, at a moment in milliseconds
abbrev pub pointer_fed : Option Touch → Option PointerReading → ℕ → Fed (Option Touch)
pointer_fed touch (Some reading) now = touched touch reading now
pointer_fed touch None now = waited touch now

-- The keypad, of which one key may be held.
abbrev pub is_enter : Key → Bool
is_enter key = same_key key Enter

-- what the release of a held key tells: Enter alone has one
abbrev pub let_go : Option Held → List InputEvent
let_go None = []
let_go (Some held) = if is_enter held.key then Release held.press.long ∷ [] else []

-- what a key tells that is pressed
abbrev pub key_tells : Key → InputEvent
key_tells Enter = Presses
key_tells NextKey = Next
key_tells PrevKey = Prev
key_tells key = Keyed key

-- whether this key is held
abbrev pub holds_key : Key → Option Held → Bool
holds_key key None = false
holds_key key (Some held) = same_key held.key key

-- a key that is held already does nothing more, and any other lets go of the held one first
abbrev pub key_down : Option Held → Key → ℕ → Fed (Option Held)
key_down held key now =
    if holds_key key held then fed held []
    else fed (Some (record { key = key; press = pressed_at now })) (let_go held ++ key_tells key ∷ [])

-- the keypad after a key goes up: only the one that is held is let go
abbrev pub key_up : Option Held → Key → Fed (Option Held)
key_up held key = if holds_key key held then fed None (let_go held) else fed held []

-- the keypad after a reading: a key goes down or up
abbrev pub key_read : Option Held → KeyReading → ℕ → Fed (Option Held)
key_read held reading now =
    if reading.down then key_down held reading.key now else key_up held reading.key

-- a key that is held as time passes
abbrev pub still_held : Key → Fed Press → Fed (Option Held)
still_held key after = fed (Some (record { key = key; press = after.device })) after.tells

-- time means something to Enter alone
abbrev pub key_waited : Option Held → ℕ → Fed (Option Held)
key_waited None now = fed None []
key_waited (Some held) now =
    if is_enter held.key then still_held held.key (held_on held.press now) else fed (Some held) []

-- the keypad after a reading, or after a tick where there is none, at a moment in milliseconds
abbrev pub keypad_fed : Option Held → Option KeyReading → ℕ → Fed (Option Held)
keypad_fed held (Some reading) now = key_read held reading now
keypad_fed held None now = key_waited held now

-- The encoder. Its push is never repeated.
abbrev pub push_waited : Option Press → ℕ → Fed (Option Press)
push_waited None now = fed None []
push_waited (Some press) now = if press.long then fed (Some press) [] else still_pressed (held_on press now)

-- the encoder's button after it is read as down or as up
abbrev pub pushed : Option Press → Bool → ℕ → Fed (Option Press)
pushed None true now = fed (Some (pressed_at now)) (Presses ∷ [])
pushed None false now = fed None []
pushed (Some press) true now = fed (Some press) []
pushed (Some press) false now = fed None (Release press.long ∷ [])

-- the encoder's button after a reading, or after a tick where there is none, at a moment in milliseconds
abbrev pub encoder_fed : Option Press → Option EncoderReading → ℕ → Fed (Option Press)
encoder_fed push (Some (Turned n)) now = fed push (Turn n ∷ [])
encoder_fed push (Some (Pushed down)) now = pushed push down now
encoder_fed push None now = push_waited push now
