-- A session: what is written to a viewer and into the log for each part that it says, and where the session
-- stands then.
use Rattle.std.specs.Prelude.{ℕ, ◌*◌, ◌^◌, Bool, true, false, not, ◌&&◌, ◌||◌, nat_lt, if◌then◌else◌}
use Rattle.std.specs.Prelude.{List, [], ◌∷◌, ◌++◌, length, map, fold, codes, bytes_eq, Some, None, Ok, Err, is_some}
use Rattle.std.specs.declared.option.Option.{Option}
use Rattle.std.specs.List.{flat_map, list_any}
use Rattle.gui_base.specs.Area.{Rect, common}
use Rattle.gui_base.specs.Limits.{Bounds}
use Rattle.scene_defs.specs.Picture.{picture}
use Rattle.scene_defs.specs.Place.{panel_of}
use Rattle.run_defs.specs.declared.Command.{Command}
use Rattle.run_defs.specs.declared.Command.TheVariants.{Tick}
use Rattle.run_defs.specs.declared.Line.TheVariants.{Frame, Pump}
use Rattle.run_defs.specs.declared.LineFault.TheVariants.{Syntax}
use Rattle.run_defs.specs.Machine.{Machine}
use Rattle.run_defs.specs.Run.{Told, first_moment, after_all, entries, told, log_text, noted}
use Rattle.run_defs.specs.Script.{Said, ended_says, open_says, max_script}
use Rattle.run_defs.specs.Step.{Step, step, is_noted}
use Rattle.session_defs.specs.Bytes.{sixteen, thirty_two}
use Rattle.session_defs.specs.Formats.{own, own_bytes}
use Rattle.session_defs.specs.declared.Format.{Format}
use Rattle.session_defs.specs.Messages.{Message, Wants, Passes, Asks, Inputs, Errs, message_of}
use Rattle.session_defs.specs.Parts.{Intake, cut, ended}
use Rattle.session_defs.specs.Updates.{Sight, Answer, answered, unanswered, asked, in_format, none_known}
use Rattle.session_defs.specs.Viewer.{viewed}
use Rattle.session_defs.specs.declared.RfbBad.{RfbBad}
use Rattle.session_defs.specs.declared.RfbBad.TheVariants as bad

-- what is due from the viewer
pub data Due : Type 0 where
  Version : Due
  Security : Due
  Sharing : Due
  Saying : Due

-- what is written: a greeting; or after a message an update in the format in force, or nothing, and the lines
-- of the log
pub data Write : Type 0 where
  Greets : (bytes : List ℕ) → Write
  Tells : (format : Format) (update lines : List ℕ) (notes : Bool) → Write

-- a session with a viewer: the machine that is seen, what was sent, and what is due
pub record Session : Type 0 where
  pub machine : Machine
  pub sight : Sight
  pub due : Due
  pub writes : List Write
  -- why it ended
  pub fault : Option RfbBad

-- What is written.

-- the bytes that go to the viewer
abbrev pub bytes_of : Write → List ℕ
bytes_of (Greets bytes) = bytes
bytes_of (Tells format update lines notes) = update

-- the lines that go to the log
abbrev pub lines_of : Write → List ℕ
lines_of (Greets bytes) = []
lines_of (Tells format update lines notes) = lines

-- whether an action or an input was refused
abbrev pub notes_of : Write → Bool
notes_of (Greets bytes) = false
notes_of (Tells format update lines notes) = notes

-- what a viewer has read after these
abbrev pub views : ℕ → List (Option ℕ) → Write → List (Option ℕ)
views width view (Greets bytes) = view
views width view (Tells format update lines notes) = viewed width format update view

abbrev pub view_of : ℕ → ℕ → List Write → List (Option ℕ)
view_of width height writes = fold (views width) (none_known (width * height)) writes

-- Greetings.

-- the version of the protocol, which the server and the viewer say
abbrev pub version : List ℕ
version = codes "RFB 003.008\n"

-- one security is offered: none
abbrev pub offer : List ℕ
offer = 1 ∷ 1 ∷ []

-- the security was accepted
abbrev pub chosen : List ℕ
chosen = 0 ∷ 0 ∷ 0 ∷ 0 ∷ []

-- the security was not accepted, with the reason
abbrev pub turned_down : List ℕ
turned_down = 0 ∷ 0 ∷ 0 ∷ 1 ∷ 0 ∷ 0 ∷ 0 ∷ 4 ∷ codes "none"

-- the screen as the viewer is told of it: its sizes, its format, and its name
abbrev pub screen : Bounds → List ℕ
screen limits = sixteen limits.width ++ sixteen limits.height ++ own_bytes ++ thirty_two 5 ++ codes "scene"

-- A session begins with the server's version.
abbrev pub begun_on : Machine → Session
begun_on machine = record {
  machine = machine;
  sight = record {
    format = own;
    sent = none_known (machine.scene.limits.width * machine.scene.limits.height);
    request = None;
  };
  due = Version;
  writes = Greets version ∷ [];
  fault = None;
}

-- a greeting is written, and then this is due
abbrev pub greets : Due → List ℕ → Session → Session
greets due bytes session =
    record session { due = due; writes = session.writes ++ Greets bytes ∷ [] }

-- the session ends for this reason
abbrev pub fails : RfbBad → Session → Session
fails why session = record session { fault = Some why }

-- Messages.

-- the machine after an input, with what its events write
pub record Heard : Type 0 where
  pub machine : Machine
  pub lines : List ℕ
  pub notes : Bool

-- the machine where there is no input
abbrev pub unmoved : Machine → Heard
unmoved machine = record { machine = machine; lines = []; notes = false }

-- the machine after a command, with what its events write
abbrev pub heard_by : Step → Heard
heard_by s = record { machine = s.machine; lines = s.lines; notes = is_noted s.reply }

-- the machine after an input, if it is a command
abbrev pub hears : Machine → Option Command → Heard
hears machine None = unmoved machine
hears machine (Some command) = heard_by (step machine command)

-- what is written after a message
abbrev pub tells : Heard → Answer → Session → Session
tells heard answer session = record session {
  machine = heard.machine;
  sight = answer.sight;
  writes = session.writes ++ Tells answer.sight.format answer.bytes heard.lines heard.notes ∷ [];
}

-- the open request is answered from the picture of the machine
abbrev pub answer_by : Bool → Sight → Heard → Answer
answer_by changes sight heard =
    answered heard.machine.scene.limits.width (picture heard.machine.scene) changes sight

-- an input is written to the log, and the open request is answered
abbrev pub answers : Bool → Sight → Heard → Session → Session
answers changes sight heard session = tells heard (answer_by changes sight heard) session

-- an area that is asked for is met with the panel
abbrev pub on_panel : Session → Rect → Rect
on_panel session area = common area (panel_of session.machine.scene)

-- `ms` is how many milliseconds pass at each request
abbrev pub says : ℕ → Message → Session → Session
says ms (Wants format) session =
    tells (unmoved session.machine) (unanswered (in_format format session.sight)) session
says ms Passes session =
    tells (unmoved session.machine) (unanswered session.sight) session
says ms (Asks changes area) session =
    answers changes (asked (on_panel session area) session.sight)
    (hears session.machine (Some (Tick ms))) session
says ms (Inputs command) session =
    answers true session.sight (hears session.machine command) session
says ms (Errs why) session = fails why session

-- the update that a message brings
abbrev pub answer_after : ℕ → Message → Session → Answer
answer_after ms (Wants format) session = unanswered (in_format format session.sight)
answer_after ms Passes session = unanswered session.sight
answer_after ms (Asks changes area) session =
    answer_by changes (asked (on_panel session area) session.sight)
    (hears session.machine (Some (Tick ms)))
answer_after ms (Inputs command) session =
    answer_by true session.sight (hears session.machine command)
answer_after ms (Errs why) session = unanswered session.sight

-- the bytes of the update that a message brings
abbrev pub update_after : ℕ → Message → Session → List ℕ
update_after ms message session = (answer_after ms message session).bytes

-- Parts.

-- what is written for a part, by what is due
abbrev pub part_due : ℕ → Due → List ℕ → Session → Session
part_due ms Version bytes session =
    if bytes_eq bytes version then greets Security offer session else fails bad.Version session
part_due ms Security bytes session =
    if bytes_eq bytes (1 ∷ []) then greets Sharing chosen session
    else fails bad.Security (greets Security turned_down session)
part_due ms Sharing bytes session = greets Saying (screen session.machine.scene.limits) session
part_due ms Saying bytes session = says ms (message_of bytes) session

-- a part more; after a fault nothing is looked at
abbrev pub part : ℕ → Session → List ℕ → Session
part ms session bytes = if is_some session.fault then session else part_due ms session.due bytes session

-- these parts, one after another
unfoldable pub parts : ℕ → Session → List (List ℕ) → Session
parts ms session all = fold (part ms) session all

-- The whole.

-- in a session a line that asks for a frame or a pump has no form of the language
abbrev pub unframed : Said → Said
unframed (Ok Frame) = Err Syntax
unframed (Ok Pump) = Err Syntax
unframed said = said

-- what the script says: its lines, and at the end of the bytes what is left of one
abbrev pub script_says : Bool → Intake → List Said
script_says whole intake =
    map (λ line. unframed (ended_says line)) intake.lines
    ++ (if whole && not intake.begun then map unframed (open_says intake.rest) else [])

-- the machine that the lines of a script leave
abbrev pub machine_after_script : Machine → List Said → Machine
machine_after_script first says = (after_all (first_moment first) says).machine

-- the session that the parts come to, where the line `rfb` has come
abbrev pub session_of : ℕ → Machine → Bool → Intake → Option Session
session_of ms first whole intake =
    if intake.begun
    then Some (parts ms (begun_on (machine_after_script first (script_says whole intake))) intake.parts)
    else None

-- what the log tells of the script
abbrev pub script_tells : Machine → List Said → List Told
script_tells first says = told (entries (first_moment first) says) []

-- what a session writes, if there is one
abbrev pub writes_in : Option Session → List Write
writes_in None = []
writes_in (Some session) = session.writes

-- what bytes come to: how they are cut, what the script in them says, and the session, if it has begun
pub record Outcome : Type 0 where
  pub intake : Intake
  pub says : List Said
  pub session : Option Session

-- what the bytes come to that are cut so; `whole` tells whether the source ended after them
abbrev pub outcome_in : ℕ → Machine → Bool → Intake → Outcome
outcome_in ms first whole intake = record {
  intake = intake;
  says = script_says whole intake;
  session = session_of ms first whole intake;
}

-- the cut bytes, where `whole` with what their end brings
abbrev pub end_if : Bool → Intake → Intake
end_if whole intake = if whole then ended intake else intake

-- what bytes come to; `whole` tells whether the source ended after them
unfoldable pub outcome : ℕ → Machine → Bool → List ℕ → Outcome
outcome ms first whole bytes = outcome_in ms first whole (end_if whole (cut bytes))

-- all bytes that go to the viewer
abbrev pub output_of : Outcome → List ℕ
output_of o = flat_map bytes_of (writes_in o.session)

-- all bytes that go to the log: what the script tells, and then what the session tells
abbrev pub log_of : Machine → Outcome → List ℕ
log_of first o = log_text (script_tells first o.says) ++ flat_map lines_of (writes_in o.session)

-- whether a line or an action was refused
abbrev pub is_noted_in : Machine → Outcome → Bool
is_noted_in first o = noted (script_tells first o.says) || list_any notes_of (writes_in o.session)

-- How it ends.

-- the longest run in bytes
abbrev pub max_run : ℕ
max_run = 2 ^ 40

-- whether there are more bytes than a script may have before its session begins, or than a run may have
abbrev pub is_too_long : Outcome → List ℕ → Bool
is_too_long o bytes =
    (not o.intake.begun && nat_lt max_script (length bytes)) || nat_lt max_run (length bytes)

-- how a run ends
pub data Stop : Type 0 where
  -- the bytes were read to their end. `notes` tells whether a line or an action was refused
  Finished : (notes : Bool) → Stop
  Overlong : Stop
  Faulty : (why : RfbBad) → Stop

-- whether messages are due
abbrev pub is_saying : Due → Bool
is_saying Version = false
is_saying Security = false
is_saying Sharing = false
is_saying Saying = true

-- whether there are no bytes
abbrev pub is_none_left : List ℕ → Bool
is_none_left [] = true
is_none_left (b ∷ bytes) = false

-- at the end of the bytes
abbrev pub stop_at_end : Machine → Outcome → Option Session → Stop
stop_at_end first o None = Faulty bad.NoSession
stop_at_end first o (Some session) =
    if is_saying session.due && is_none_left o.intake.rest then Finished (is_noted_in first o)
    else Faulty bad.Cut

-- the fault of a session, if there is one and it has one
abbrev pub fault_in : Option Session → Option RfbBad
fault_in None = None
fault_in (Some session) = session.fault

-- how a run ends by a fault, or else at the end of the bytes
abbrev pub stop_by : Machine → Bool → Outcome → Option RfbBad → Option Stop
stop_by first whole o (Some why) = Some (Faulty why)
stop_by first whole o None = if whole then Some (stop_at_end first o o.session) else None

-- how a run ends after these bytes, where it does
abbrev pub stop : Machine → Bool → List ℕ → Outcome → Option Stop
stop first whole bytes o =
    if is_too_long o bytes then Some Overlong else stop_by first whole o (fault_in o.session)
