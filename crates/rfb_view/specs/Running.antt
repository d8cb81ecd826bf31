-- Where a run stands after the bytes that were taken, and what it has written.
use Rattle.std.specs.Prelude.{◌≡◌, ℕ, ◌+◌, ◌^◌, ◌<◌, ◌≤◌, Bool, true, false, not, ◌&&◌, ◌||◌, nat_lt, List, [], ◌++◌, length, Some, None}
use Rattle.std.specs.declared.option.Option.{Option}
use Rattle.std.specs.Io.KnownBytes.{Appends}
use Rattle.run_defs.specs.Machine.{Machine}
use Rattle.run_defs.specs.Run.{Told, log_text, noted}
use Rattle.run_defs.specs.Script.{max_script}
use Rattle.scene_script.specs.Cutting.{begun, kept}
use Rattle.session_defs.specs.Parts.{Intake, cut}
use Rattle.session_defs.specs.Sessions.{Session, begun_on, script_says, script_tells, session_of}
use Rattle.session_defs.specs.Sessions.{outcome, stop, Stop, max_run}
use Rattle.session_defs.specs.declared.RfbBad.{RfbBad}
use Rattle.rfb_view.specs.Endings.{BrokeAt, Writes, stopped}
use Rattle.rfb_view.specs.Hearing.{HasHeard}
use Rattle.rfb_view.specs.Reading.{InScript, InSession}
use Rattle.rfb_view.specs.Talking.{Outs, Talks, IsOver, count_due}
use Rattle.rfb_view.specs.declared.run.Run.{Run}
use Rattle.rfb_view.specs.declared.status.RfbStatus.{RfbStatus}
use Rattle.rfb_view.specs.declared.talk.Due.TheVariants.{Version}
use Rattle.rfb_view.specs.declared.talk.Talk.{Talk}

-- what the log is told of the whole lines of the script
abbrev pub script_log : Machine → Intake → List Told
script_log first intake = script_tells first (script_says false intake)

-- a talk that has not begun, over this machine
pub record IsFresh (machine : Machine) (talk : Talk) : Type 0 where
  pub sight_is : talk.sight ≡ (begun_on machine).sight
  pub due_is : talk.due ≡ Version
  pub fault_is : talk.fault ≡ None
  pub heard : HasHeard talk.hearing []

-- In the script: each whole line is answered.
pub record Scripting (first : Machine) (start : Outs) (machine : Machine) (run : Run) (now : Outs)
    (intake : Intake) : Type 0 where
  pub script : InScript first intake intake.rest machine
  pub line : begun run.cutter ≡ kept intake.rest
  pub number : run.number ≡ 1 + length intake.lines
  pub fresh : IsFresh machine run.talk
  pub notes : run.talk.noted ≡ noted (script_log first intake)
  pub out : Appends start.out.held now.out.held []
  pub log : Appends start.log.held now.log.held (log_text (script_log first intake))

-- What was written up to a moment of a session: the log of the script, and then what the session writes.
pub record Wrote (first : Machine) (start : Outs) (machine : Machine) (run : Run) (now : Outs) (intake : Intake)
    (session : Session) : Type 0 where
  -- where the session began
  pub middle : Outs
  pub out : Appends start.out.held middle.out.held []
  pub log : Appends start.log.held middle.log.held (log_text (script_log first intake))
  pub talks : Talks (noted (script_log first intake)) middle now machine run.talk session

-- In the session: each whole part is answered.
pub record Conversing (first : Machine) (start : Outs) (machine : Machine) (run : Run) (now : Outs)
    (intake : Intake) : Type 0 where
  pub session : Session
  pub goes : InSession run.talk.ms first intake run.talk.hearing (count_due run.talk.due) session
  pub wrote : Wrote first start machine run now intake session

-- After a part at fault: the session is over.
pub record Failing (first : Machine) (start : Outs) (machine : Machine) (run : Run) (now : Outs)
    (intake : Intake) : Type 0 where
  pub session : Session
  pub begun : intake.begun ≡ true
  pub session_is : session_of run.talk.ms first false intake ≡ Some session
  pub wrote : Wrote first start machine run now intake session

-- by whether the session has begun, and why it is over
abbrev pub Stands : Bool → Option RfbBad → Machine → Outs → Machine → Run → Outs → Intake → Type 0
Stands false fault first start machine run now intake = Scripting first start machine run now intake
Stands true None first start machine run now intake = Conversing first start machine run now intake
Stands true (Some why) first start machine run now intake = Failing first start machine run now intake

-- these bytes were read from the start on, and answered
abbrev pub HasRead : Machine → Outs → Machine → Run → Outs → List ℕ → Type 0
HasRead first start machine run now bytes =
    Stands run.begun run.talk.fault first start machine run now (cut bytes)

-- there are numbers for so many bytes more
pub record HasRoom (run : Run) (room : ℕ) : Type 0 where
  pub number : run.begun ≡ false → run.number + room < 2 ^ 32
  pub count : run.talk.hearing.count + room < 2 ^ 64

-- The run went on over these bytes, whatever was read before.
pub record ReadsOn (was : Machine) (old : Run) (before : Outs) (is : Machine) (new : Run) (after : Outs)
    (bytes : List ℕ) : Type 0 where
  pub from : (first : Machine) (start : Outs) (taken : List ℕ) →
      HasRead first start was old before taken → HasRead first start is new after (taken ++ bytes)
  pub room : (more : ℕ) → HasRoom old (more + length bytes) → HasRoom new more
  pub number : new.number ≤ old.number + length bytes
  pub count : new.talk.hearing.count ≤ old.talk.hearing.count + length bytes
  pub ms : new.talk.ms ≡ old.talk.ms
  pub over : IsOver is new.talk

-- A write failed at one of these bytes.
pub record BreaksOff (was : Machine) (old : Run) (before after : Outs) (bytes : List ℕ) : Type 0 where
  pub read : List ℕ
  pub unread : List ℕ
  pub bytes_are : read ++ unread ≡ bytes
  pub from : (first : Machine) (start : Outs) (taken : List ℕ) →
      HasRead first start was old before taken → BrokeAt old.talk.ms first false start after (taken ++ read)

-- so many bytes are not too many
pub record IsShort (run : Run) (count : ℕ) : Type 0 where
  pub script : run.begun ≡ false → count ≤ max_script
  pub all : count ≤ max_run

-- The bytes that were taken stop a run with this status, and all that they come to was written.
pub record StopsWith (ms : ℕ) (first : Machine) (whole : Bool) (start now : Outs) (taken : List ℕ)
    (status : RfbStatus) : Type 0 where
  pub how : Stop
  pub stop_is : stop first whole taken (outcome ms first whole taken) ≡ Some how
  pub status_is : status ≡ stopped how
  pub writes : Writes ms first whole start now taken

-- The end of the bytes was taken.
pub record Finishes (was : Machine) (old : Run) (before after : Outs) (status : RfbStatus) : Type 0 where
  pub from : (first : Machine) (start : Outs) (taken : List ℕ) →
      HasRead first start was old before taken → IsShort old (length taken) → old.talk.fault ≡ None →
      StopsWith old.talk.ms first true start after taken status

-- A write failed at the last line, which no newline ended.
pub record FinishBreaks (was : Machine) (old : Run) (before after : Outs) : Type 0 where
  pub from : (first : Machine) (start : Outs) (taken : List ℕ) →
      HasRead first start was old before taken → BrokeAt old.talk.ms first true start after taken

-- whether so many bytes are too many
abbrev pub is_overlong : Run → ℕ → Bool
is_overlong run count = (not run.begun && nat_lt max_script count) || nat_lt max_run count
