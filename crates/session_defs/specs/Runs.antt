-- What a viewer reads of the bytes that a session sends it.
use Rattle.std.specs.Prelude.{◌≡◌, ℕ, ◌*◌, Bool, true, false, ◌&&◌, nat_lt, List, [], ◌∷◌, ◌++◌, length, Some, None}
use Rattle.std.specs.declared.option.Option.{Option}
use Rattle.std.specs.List.{flat_map}
use Rattle.gui_base.specs.Area.{Rect}
use Rattle.scene_defs.specs.Picture.{picture}
use Rattle.run_defs.specs.Machine.{Machine}
use Rattle.session_defs.specs.Formats.{own}
use Rattle.session_defs.specs.Messages.{Message, Wants, message_of}
use Rattle.session_defs.specs.Parts.{cut}
use Rattle.session_defs.specs.Reader.{screen_read}
use Rattle.session_defs.specs.Sessions.{Session, Due, Saying, begun_on, part, parts, says, bytes_of, view_of, update_after}
use Rattle.session_defs.specs.Sessions.{is_saying, end_if, script_says, machine_after_script, outcome, output_of}
use Rattle.session_defs.specs.Viewing.{IsSeen}
use Rattle.session_defs.specs.Watching.{asked_by}
use Rattle.session_defs.specs.declared.Format.{Format}

-- the bytes that a session has sent
abbrev pub sent_by : Session → List ℕ
sent_by session = flat_map bytes_of session.writes

-- The formats that a viewer sets.

-- the format that is set after a message
abbrev pub set_after : Message → Format → Format
set_after (Wants format) set = format
set_after message set = set

-- the same after a part, which is a message where one is due
abbrev pub set_by : Due → List ℕ → Format → Format
set_by Saying bytes set = set_after (message_of bytes) set
set_by due bytes set = set

-- whether a message was answered with bytes
abbrev pub is_answered : Session → Session → Bool
is_answered old new = is_saying old.due && nat_lt (length (sent_by old)) (length (sent_by new))

-- with a format more, where a message was answered
abbrev pub with_format : Bool → Format → List Format → List Format
with_format false format formats = formats
with_format true format formats = format ∷ formats

-- for each answer to one of these parts the format that the viewer had set before it came
abbrev pub formats_from : ℕ → Session → Format → List (List ℕ) → List Format
formats_from ms session set [] = []
formats_from ms session set (bytes ∷ all) =
    with_format (is_answered session (part ms session bytes)) (set_by session.due bytes set)
    (formats_from ms (part ms session bytes) (set_by session.due bytes set) all)

-- in a session that begins with the server's own format
abbrev pub formats_of : ℕ → Machine → List (List ℕ) → List Format
formats_of ms machine all = formats_from ms (begun_on machine) own all

-- what is on the screen of a viewer that said these parts and read what it was sent
abbrev pub screen_after : ℕ → Machine → List (List ℕ) → Option (List (Option ℕ))
screen_after ms machine all = screen_read (formats_of ms machine all) (sent_by (parts ms (begun_on machine) all))

-- Of the bytes alone a viewer reads what was written into its view, once the greeting is over.
abbrev pub SessionsAreRead : Type 0
SessionsAreRead =
    (ms : ℕ) (machine : Machine) (all : List (List ℕ)) → (parts ms (begun_on machine) all).due ≡ Saying →
    screen_after ms machine all
    ≡ Some (view_of machine.scene.limits.width machine.scene.limits.height (parts ms (begun_on machine) all).writes)

-- A message of a session: the viewer reads all bytes up to its answer, and where there is one, it has the numbers
-- of the machine's picture, in the format in force, in the whole area that it asked for.
pub record SeesMessage (ms : ℕ) (machine : Machine) (before : List (List ℕ)) (bytes : List ℕ) : Type 0 where
  pub view : List (Option ℕ)
  pub reads : screen_after ms machine (before ++ bytes ∷ []) ≡ Some view
  -- a number for each pixel of the panel
  pub many : length view ≡ machine.scene.limits.width * machine.scene.limits.height
  pub seen : (area : Rect) → asked_by (message_of bytes) (parts ms (begun_on machine) before) ≡ Some area →
      (b : ℕ) (more : List ℕ) → update_after ms (message_of bytes) (parts ms (begun_on machine) before) ≡ b ∷ more →
      IsSeen machine.scene.limits.width (parts ms (begun_on machine) (before ++ bytes ∷ [])).sight.format
      (picture (parts ms (begun_on machine) (before ++ bytes ∷ [])).machine.scene) area view

-- A run over these bytes, after which the source ended where `whole` tells so.

-- the parts of the session in them
abbrev pub parts_in : Bool → List ℕ → List (List ℕ)
parts_in whole taken = (end_if whole (cut taken)).parts

-- the machine that the script in them leaves
abbrev pub machine_in : Machine → Bool → List ℕ → Machine
machine_in first whole taken = machine_after_script first (script_says whole (end_if whole (cut taken)))

-- the viewer sees the answer to each message in them, up to one at fault
pub record SeesRun (ms : ℕ) (first : Machine) (whole : Bool) (taken : List ℕ) : Type 0 where
  pub sees : (before after : List (List ℕ)) (bytes : List ℕ) → parts_in whole taken ≡ before ++ bytes ∷ after →
      (parts ms (begun_on (machine_in first whole taken)) before).due ≡ Saying →
      (parts ms (begun_on (machine_in first whole taken)) before).fault ≡ None →
      SeesMessage ms (machine_in first whole taken) before bytes
  -- and what it was sent at all of them is the output
  pub output : (end_if whole (cut taken)).begun ≡ true →
      output_of (outcome ms first whole taken)
      ≡ sent_by (parts ms (begun_on (machine_in first whole taken)) (parts_in whole taken))

abbrev pub RunsAreSeen : Type 0
RunsAreSeen = (ms : ℕ) (first : Machine) (whole : Bool) (taken : List ℕ) → SeesRun ms first whole taken
