-- What the top call comes to, by how it ended.
use Rattle.std.specs.Prelude.{◌≡◌, ◌⊎◌, ℕ, Bool, List, Some, None, ⊤}
use Rattle.std.specs.declared.option.Option.{Option}
use Rattle.std.specs.Io.KnownBytes.{Appends, Consumes}
use Rattle.gui_edge.specs.Causes.{Rose}
use Rattle.run_defs.specs.Machine.{Machine, first_machine}
use Rattle.session_defs.specs.Runs.{SeesRun}
use Rattle.session_defs.specs.Sessions.{outcome, output_of}
use Rattle.rfb_view.specs.Endings.{Outside, Serves, IfUnstarted, EndsIf}
use Rattle.rfb_view.specs.Words.{Wanted}
use Rattle.rfb_view.specs.declared.status.RfbStatus.{RfbStatus}
use Rattle.rfb_view.specs.declared.status.RfbStatus.TheVariants.{Usage, NoMemory, ReadFault, WriteFault}

-- where the words have settings, and there was memory, a session is read and answered
abbrev pub ServesAs : Option Wanted → Outside → Outside → RfbStatus → Type 0
ServesAs settings old new Usage = ⊤
ServesAs settings old new NoMemory = ⊤
ServesAs None old new status = ⊤
ServesAs (Some settings) old new status = Serves settings.ms (first_machine settings.limits) old new status

-- A run of a session with the settings that its words have, if they have any.
pub record RunsSession (settings : Option Wanted) (old new : Outside) (status : RfbStatus) : Type 0 where
  -- the words are at fault only where they have no settings
  pub usage : status ≡ Usage → settings ≡ None
  -- and where they have none, nothing else is answered, but for want of memory
  pub no_settings : settings ≡ None → (status ≡ Usage) ⊎ (status ≡ NoMemory)
  pub serves : ServesAs settings old new status
  -- before that no byte is read, and nothing is written
  pub unread : IfUnstarted status (new ≡ old)
  -- a read fault is answered only where the source's count of faults rose
  pub read_fault : status ≡ ReadFault → Rose old.source.faults new.source.faults
  -- a write fault is answered only where the count of the output or of the log rose
  pub write_fault : status ≡ WriteFault → Rose old.outs.out.faults new.outs.out.faults ⊎ Rose old.outs.log.faults new.outs.log.faults

-- What a run sends its viewer, by the bytes that were taken: the viewer sees the answer to each message.
pub record Shows (ms : ℕ) (first : Machine) (old new : Outside) : Type 0 where
  pub taken : List ℕ
  pub source : Consumes old.source.left new.source.left taken
  -- whether the source ended after them
  pub whole : Bool
  pub end : EndsIf whole new.source
  pub out : Appends old.outs.out.held new.outs.out.held (output_of (outcome ms first whole taken))
  pub sees : SeesRun ms first whole taken

-- where a session was run and no write failed
abbrev pub ShowsAs : Option Wanted → Outside → Outside → RfbStatus → Type 0
ShowsAs settings old new Usage = ⊤
ShowsAs settings old new NoMemory = ⊤
ShowsAs settings old new WriteFault = ⊤
ShowsAs None old new status = ⊤
ShowsAs (Some settings) old new status = Shows settings.ms (first_machine settings.limits) old new
