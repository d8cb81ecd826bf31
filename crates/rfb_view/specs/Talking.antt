-- How the talk with a viewer goes on.
use Rattle.std.specs.Prelude.{◌≡◌, ℕ, ◌≤◌, ◌⊎◌, Bool, true, false, ◌||◌, ◌==◌, List, [], length, OnErr, ⊤}
use Rattle.std.specs.declared.result.Result.{Result}
use Rattle.std.specs.List.{flat_map, list_any}
use Rattle.std.specs.Io.KnownBytes.{Appends}
use Rattle.gui_edge.specs.Causes.{Rose}
use Rattle.gui_edge.specs.Sink.{SinkState, AppendsPrefix}
use Rattle.run_defs.specs.Machine.{Machine}
use Rattle.scene_defs.specs.Picture.{picture}
use Rattle.session_defs.specs.Messages.{Message}
use Rattle.session_defs.specs.Parts.{size_after}
use Rattle.session_defs.specs.Sessions.{Session, Due as Step, bytes_of, lines_of, notes_of, part_due, says}
use Rattle.session_defs.specs.Updates.{Sight, Answer, answered}
use Rattle.session_defs.specs.Sessions.{Version as AtVersion, Security as AtSecurity, Sharing as AtSharing, Saying as AtSaying}
use Rattle.rfb_view.specs.Hearing.{HasHeard}
use Rattle.rfb_view.specs.Sights.{IsSight}
use Rattle.rfb_view.specs.declared.talk.Due.{Due}
use Rattle.rfb_view.specs.declared.talk.Due.TheVariants.{Version, Security, Sharing, Saying}
use Rattle.rfb_view.specs.declared.talk.Talk.{Talk}

-- what is written to: the viewer and the log
pub record Outs : Type 0 where
  pub out : SinkState
  pub log : SinkState

-- a viewer and a log
abbrev pub outs : SinkState → SinkState → Outs
outs out log = record { out = out; log = log }

-- counts of faults do not fall, and a failure is answered only where one of them rose
pub record Causes {T E : Type 0} (old new : Outs) (result : Result T E) : Type 0 where
  pub out : old.out.faults ≤ new.out.faults
  pub log : old.log.faults ≤ new.log.faults
  pub failed : OnErr result (Rose old.out.faults new.out.faults ⊎ Rose old.log.faults new.log.faults)

-- what is due, as the definitions name it, and how many parts came before it
abbrev pub due_of : Due → Step
due_of Version = AtVersion
due_of Security = AtSecurity
due_of Sharing = AtSharing
due_of Saying = AtSaying

abbrev pub count_due : Due → ℕ
count_due Version = 0
count_due Security = 1
count_due Sharing = 2
count_due Saying = 3

-- how many bytes a part has by its kind, where its kind alone tells that
abbrev pub IsWhole : Due → ℕ → Type 0
IsWhole Version count = count ≡ 12
IsWhole Security count = count ≡ 1
IsWhole Sharing count = ⊤
IsWhole Saying count = ⊤

-- the session that the talk goes on from, with nothing written
abbrev pub bare : Machine → Talk → Session
bare machine talk = record {
  machine = machine;
  sight = talk.sight;
  due = due_of talk.due;
  writes = [];
  fault = talk.fault;
}

-- The talk has come to this session, and what it writes was written.
pub record Talks (notes : Bool) (old new : Outs) (machine : Machine) (talk : Talk) (session : Session) :
    Type 0 where
  pub machine_is : machine ≡ session.machine
  pub sight_is : talk.sight ≡ session.sight
  pub due_is : due_of talk.due ≡ session.due
  pub fault_is : talk.fault ≡ session.fault
  pub notes_is : talk.noted ≡ (notes || list_any notes_of session.writes)
  pub out : Appends old.out.held new.out.held (flat_map bytes_of session.writes)
  pub log : Appends old.log.held new.log.held (flat_map lines_of session.writes)

-- A write failed: prefixes of what the session writes were written.
pub record Broke (old new : Outs) (session : Session) : Type 0 where
  pub out : AppendsPrefix old.out.held new.out.held (flat_map bytes_of session.writes)
  pub log : AppendsPrefix old.log.held new.log.held (flat_map lines_of session.writes)

-- The talk is over a machine with a panel of its sizes.
pub record IsOver (machine : Machine) (talk : Talk) : Type 0 where
  pub width_is : talk.width ≡ machine.scene.limits.width
  pub height_is : talk.height ≡ machine.scene.limits.height
  pub few : talk.width ≤ 1024
  pub sight : IsSight talk.width talk.height talk.sight

-- what stays as it is through a talk
pub record Stays (old new : Talk) : Type 0 where
  pub ms : new.ms ≡ old.ms
  pub width : new.width ≡ old.width
  pub height : new.height ≡ old.height

-- how an open request is answered from the picture of a machine
abbrev pub looks : Machine → Bool → Sight → Answer
looks machine changes sight = answered machine.scene.limits.width (picture machine.scene) changes sight

-- The talk went on to a session.
pub record Goes (before after : Outs) (old : Talk) (now : Machine) (new : Talk) (session : Session) : Type 0 where
  pub talks : Talks old.noted before after now new session
  pub over : IsOver now new
  pub stays : Stays old new

-- It heard a message.
abbrev pub Hears : Outs → Outs → Machine → Talk → Machine → Talk → Message → Type 0
Hears before after machine old now new message =
    Goes before after old now new (says old.ms message (bare machine old))

-- whether bytes are a whole part
abbrev pub is_part : Talk → List ℕ → Bool
is_part talk bytes = length bytes == size_after (count_due talk.due) bytes

-- Nothing but a byte of a part was taken.
pub record Listens (bytes : List ℕ) (before after : Outs) (machine : Machine) (old : Talk) (now : Machine) (new : Talk) :
    Type 0 where
  pub heard : HasHeard new.hearing bytes
  pub machine_is : now ≡ machine
  pub talk_is : new ≡ record old { hearing = new.hearing }
  pub outs_are : after ≡ before

-- A part was taken whole, and the next one is due.
pub record Answers (bytes : List ℕ) (before after : Outs) (machine : Machine) (old : Talk) (now : Machine) (new : Talk) :
    Type 0 where
  pub goes : Goes before after old now new (part_due old.ms (due_of old.due) bytes (bare machine old))
  pub heard : HasHeard new.hearing []

-- what bytes of a part come to, by whether they are all of it
abbrev pub Takes : Bool → List ℕ → Outs → Outs → Machine → Talk → Machine → Talk → Type 0
Takes false bytes before after machine old now new = Listens bytes before after machine old now new
Takes true bytes before after machine old now new = Answers bytes before after machine old now new
