-- What a viewer says in a message.
use Rattle.std.specs.Prelude.{ℕ, ◌+◌, ◌*◌, Bool, not, ◌==◌, nat_lt, if◌then◌else◌, min, ◌%◌}
use Rattle.std.specs.Prelude.{List, length, Some, None, pos}
use Rattle.std.specs.declared.option.Option.{Option}
use Rattle.gui_base.specs.Area.{Rect, area_at}
use Rattle.gui_base.specs.declared.events.Key.{Key}
use Rattle.gui_base.specs.declared.events.Key.TheVariants.{Enter, Next, Prev, Left, Up, Right, Down}
use Rattle.run_defs.specs.declared.Command.{Command}
use Rattle.run_defs.specs.declared.Command.TheVariants.{Touch, Release, Key as Press}
use Rattle.session_defs.specs.Bytes.{at, sixteen_at, thirty_two_at}
use Rattle.session_defs.specs.Formats.{format_at}
use Rattle.session_defs.specs.declared.Format.{Format}
use Rattle.session_defs.specs.declared.RfbBad.{RfbBad}
use Rattle.session_defs.specs.declared.RfbBad.TheVariants as bad

-- what a viewer says with one message, by its meaning for the session
pub data Message : Type 0 where
  -- from now on pixels are wanted in this format
  Wants : (format : Format) → Message
  -- nothing that is looked at
  Passes : Message
  -- the pixels of an area are wanted, or only what changed of them
  Asks : (changes : Bool) (area : Rect) → Message
  -- an input, or a key that nothing is known of
  Inputs : (command : Option Command) → Message
  -- what no viewer may say
  Errs : (why : RfbBad) → Message

-- Sizes.

-- how many bytes a message has that begins so, or how many tell that
abbrev pub size_from : ℕ → List ℕ → ℕ
size_from kind bytes =
    if kind == 0 then 20
    else if kind == 2 then (if nat_lt (length bytes) 4 then 4 else 4 + 4 * sixteen_at bytes 2)
    else if kind == 3 then 10
    else if kind == 4 then 8
    else if kind == 5 then 6
    else if kind == 6 then (if nat_lt (length bytes) 8 then 8 else 8 + thirty_two_at bytes 4)
    else 1

-- how many bytes a message has that begins so, or how many tell that
abbrev pub size_of_message : List ℕ → ℕ
size_of_message bytes = size_from (at bytes 0) bytes

-- Keys.

-- the key of a symbol of the X window system, if the language has it: Return, Tab, Shift-Tab and the four arrows
abbrev pub key_of : ℕ → Option Key
key_of symbol =
    if symbol == 65293 then Some Enter
    else if symbol == 65289 then Some Next
    else if symbol == 65056 then Some Prev
    else if symbol == 65361 then Some Left
    else if symbol == 65362 then Some Up
    else if symbol == 65363 then Some Right
    else if symbol == 65364 then Some Down
    else None

-- the command of a key that goes down or up, if it is known
abbrev pub pressed : Option Key → Bool → Option Command
pressed None down = None
pressed (Some key) down = Some (Press key down)

-- Points.

-- the greatest number of a point
abbrev pub farthest : ℕ
farthest = 4000

-- the first button is down where the mask is odd
abbrev pub pointed : ℕ → ℕ → ℕ → Command
pointed mask x y = if mask % 2 == 1 then Touch (pos (min x farthest)) (pos (min y farthest)) else Release

-- Messages.

-- a request for a format; one that may not be asked for is a fault
abbrev pub wanted : Option Format → Message
wanted None = Errs bad.Format
wanted (Some format) = Wants format

-- what the bytes of a message of this kind say
abbrev pub said_by : ℕ → List ℕ → Message
said_by kind bytes =
    if kind == 0 then wanted (format_at bytes 4)
    else if kind == 2 then Passes
    else if kind == 3 then Asks (not (at bytes 1 == 0))
    (area_at (pos (sixteen_at bytes 2)) (pos (sixteen_at bytes 4)) (sixteen_at bytes 6) (sixteen_at bytes 8))
    else if kind == 4 then Inputs (pressed (key_of (thirty_two_at bytes 4)) (not (at bytes 1 == 0)))
    else if kind == 5 then Inputs (Some (pointed (at bytes 1) (sixteen_at bytes 2) (sixteen_at bytes 4)))
    else if kind == 6 then Passes
    else Errs bad.Message

-- what the bytes of a message say
abbrev pub message_of : List ℕ → Message
message_of bytes = said_by (at bytes 0) bytes
