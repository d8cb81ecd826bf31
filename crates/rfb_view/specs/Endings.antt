-- How a run ends.
use Rattle.std.specs.Prelude.{◌≡◌, ℕ, ◌≤◌, Bool, true, false, ◌&&◌, if◌then◌else◌, List, [], ◌++◌, length, Some, None, ⊤}
use Rattle.std.specs.Io.KnownBytes.{Appends, Consumes, IsAtEnd}
use Rattle.gui_edge.specs.Sink.{AppendsPrefix}
use Rattle.gui_edge.specs.Source.{SourceState}
use Rattle.run_defs.specs.Machine.{Machine}
use Rattle.session_defs.specs.Sessions.{outcome, output_of, log_of, stop, Stop, Finished, Overlong, Faulty}
use Rattle.session_defs.specs.Sessions.{is_saying, is_none_left}
use Rattle.session_defs.specs.declared.RfbBad.{RfbBad}
use Rattle.session_defs.specs.declared.RfbBad.TheVariants as bad
use Rattle.rfb_view.specs.Talking.{Outs, due_of}
use Rattle.rfb_view.specs.declared.talk.Talk.{Talk}
use Rattle.rfb_view.specs.declared.status.RfbStatus.{RfbStatus}
use Rattle.rfb_view.specs.declared.status.RfbStatus.TheVariants.{Done, Noted, Usage, ReadFault, WriteFault}
use Rattle.rfb_view.specs.declared.status.RfbStatus.TheVariants.{NoMemory, TooLong, Bad}

-- the status of a run that stopped so
abbrev pub stopped : Stop → RfbStatus
stopped (Finished false) = Done
stopped (Finished true) = Noted
stopped Overlong = TooLong
stopped (Faulty why) = Bad why

-- the most bytes that one read takes
abbrev pub max_read : ℕ
max_read = 4096

-- Bytes that were read in pieces of at most so many: after each of the pieces the run went on.
pub data InPieces (ms : ℕ) (first : Machine) : List ℕ → Type 0 where
  Nothing : InPieces ms first []
  Further : (read piece : List ℕ) → InPieces ms first read → length piece ≤ max_read →
      stop first false (read ++ piece) (outcome ms first false (read ++ piece)) ≡ None →
      InPieces ms first (read ++ piece)

-- So that what ended the run came with the last piece, or after it.
pub record ReadSo (ms : ℕ) (first : Machine) (taken : List ℕ) : Type 0 where
  pub read : List ℕ
  pub last : List ℕ
  pub taken_is : read ++ last ≡ taken
  pub few : length last ≤ max_read
  pub pieces : InPieces ms first read

-- how a session stops at the end of the bytes, where this is heard of the part that is due
abbrev pub end_of : Talk → List ℕ → Stop
end_of talk heard =
    if is_saying (due_of talk.due) && is_none_left heard then Finished talk.noted else Faulty bad.Cut

-- what is lacking where the bytes end before the first part is whole
abbrev pub lack : Bool → RfbBad
lack true = bad.Cut
lack false = bad.NoSession

-- all was written that these bytes come to, after which the source ended where `whole` tells so
pub record Writes (ms : ℕ) (first : Machine) (whole : Bool) (old new : Outs) (bytes : List ℕ) : Type 0 where
  pub out : Appends old.out.held new.out.held (output_of (outcome ms first whole bytes))
  pub log : Appends old.log.held new.log.held (log_of first (outcome ms first whole bytes))

-- A write failed over these bytes: prefixes of what they come to were written.
pub record BrokeAt (ms : ℕ) (first : Machine) (whole : Bool) (start now : Outs) (bytes : List ℕ) : Type 0 where
  pub out : AppendsPrefix start.out.held now.out.held (output_of (outcome ms first whole bytes))
  pub log : AppendsPrefix start.log.held now.log.held (log_of first (outcome ms first whole bytes))

-- what a run reads and writes
pub record Outside : Type 0 where
  pub source : SourceState
  pub outs : Outs

-- a source, a viewer and a log
abbrev pub outside : SourceState → Outs → Outside
outside source outs = record { source = source; outs = outs }

-- the source is at its end
abbrev pub EndsIf : Bool → SourceState → Type 0
EndsIf false source = ⊤
EndsIf true source = IsAtEnd source.left

-- The bytes that were taken stop the run with this status, and all that they come to was written.
pub record Stopped (ms : ℕ) (first : Machine) (old new : Outside) (taken : List ℕ) (status : RfbStatus) :
    Type 0 where
  -- whether the source ended after them
  pub whole : Bool
  pub end : EndsIf whole new.source
  pub how : Stop
  pub stop_is : stop first whole taken (outcome ms first whole taken) ≡ Some how
  pub status_is : status ≡ stopped how
  -- it is too long by what was read, and not by how the source ended
  pub long : status ≡ TooLong → whole ≡ false
  pub writes : Writes ms first whole old.outs new.outs taken

-- A read failed: the bytes so far do not stop the run, and all that they come to was written.
pub record Unread (ms : ℕ) (first : Machine) (old new : Outside) (taken : List ℕ) : Type 0 where
  pub goes_on : stop first false taken (outcome ms first false taken) ≡ None
  pub writes : Writes ms first false old.outs new.outs taken

-- A write failed: of what the bytes up to one of those taken come to, prefixes were written.
pub record Unwritten (ms : ℕ) (first : Machine) (old new : Outside) (taken : List ℕ) : Type 0 where
  -- whether the source ended after them, and that was what could not be answered
  pub whole : Bool
  pub end : EndsIf whole new.source
  pub read : List ℕ
  pub unread : List ℕ
  pub taken_is : read ++ unread ≡ taken
  pub last : whole ≡ true → unread ≡ []
  pub broke : BrokeAt ms first whole old.outs new.outs read

-- what the bytes that were taken come to, by how the run ended
abbrev pub Ended : ℕ → Machine → Outside → Outside → List ℕ → RfbStatus → Type 0
Ended ms first old new taken Done = Stopped ms first old new taken Done
Ended ms first old new taken Noted = Stopped ms first old new taken Noted
Ended ms first old new taken TooLong = Stopped ms first old new taken TooLong
Ended ms first old new taken (Bad why) = Stopped ms first old new taken (Bad why)
Ended ms first old new taken ReadFault = Unread ms first old new taken
Ended ms first old new taken WriteFault = Unwritten ms first old new taken
Ended ms first old new taken status = ⊥

-- A session was read and answered, from this machine on.
pub record Serves (ms : ℕ) (first : Machine) (old new : Outside) (status : RfbStatus) : Type 0 where
  -- the bytes that were taken from the source
  pub taken : List ℕ
  pub source : Consumes old.source.left new.source.left taken
  pub so : ReadSo ms first taken
  pub ended : Ended ms first old new taken status

-- P where the run ended before a byte was read
abbrev pub IfUnstarted : RfbStatus → Type 0 → Type 0
IfUnstarted Usage P = P
IfUnstarted NoMemory P = P
IfUnstarted status P = ⊤

-- how a run may end at the end of its bytes
abbrev pub IsEnd : RfbStatus → Type 0
IsEnd Done = ⊤
IsEnd Noted = ⊤
IsEnd (Bad why) = ⊤
IsEnd status = ⊥
