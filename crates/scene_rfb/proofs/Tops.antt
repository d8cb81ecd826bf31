-- The top call, by what came of the words and of the opening.
use Rattle.std.proofs.Common.{◌≡◌, ◌⊎◌, refl, inl, inr, ℕ, List, false, Option, Some, None}
use Rattle.std.specs.Io.KnownBytes.{Consumes}
use Rattle.gui_edge.specs.Causes.{Rose}
use Rattle.run_defs.specs.Machine.{Machine, first_machine}
use Rattle.rfb_view.specs.Endings.{Outside, Serves, IfUnstarted, Stopped, Unread}
use Rattle.rfb_view.specs.Words.{Wanted}
use Rattle.rfb_view.specs.declared.status.RfbStatus.{RfbStatus}
use Rattle.rfb_view.specs.declared.status.RfbStatus.TheVariants.{Done, Noted, Usage, NoMemory, ReadFault, WriteFault, TooLong, Bad}
use Rattle.session_defs.proofs.Streams.{runs_are_seen}
use Rattle.scene_rfb.specs.Runs.{RunsSession, Shows, ShowsAs}

-- the words have no settings
pub runs_unusable : (settings : Option Wanted) (old : Outside) → settings ≡ None → RunsSession settings old old Usage
runs_unusable settings old none = record { usage = λ e. none; no_settings = λ e. inl refl; serves = tt; unread = refl; read_fault = λ e. absurd (cc); write_fault = λ e. absurd (cc) }

-- there was too little memory
pub runs_short : (settings : Option Wanted) (old : Outside) → RunsSession settings old old NoMemory
runs_short settings old = record { usage = λ e. absurd (cc); no_settings = λ e. inr refl; serves = tt; unread = refl; read_fault = λ e. absurd (cc); write_fault = λ e. absurd (cc) }

-- a session was served
pub runs_served : (settings : Option Wanted) (wanted : Wanted) (ms : ℕ) (first : Machine) (old new : Outside) (status : RfbStatus) → settings ≡ Some wanted → ms ≡ wanted.ms → first ≡ first_machine wanted.limits → Serves ms first old new status →
    (status ≡ ReadFault → Rose old.source.faults new.source.faults) → (status ≡ WriteFault → Rose old.outs.out.faults new.outs.out.faults ⊎ Rose old.outs.log.faults new.outs.log.faults) → RunsSession settings old new status
runs_served settings wanted ms first old new status e m f s read write = rw e (by status s read write)
  where
    by : (status : RfbStatus) → Serves ms first old new status → (status ≡ ReadFault → Rose old.source.faults new.source.faults) → (status ≡ WriteFault → Rose old.outs.out.faults new.outs.out.faults ⊎ Rose old.outs.log.faults new.outs.log.faults) →
        RunsSession (Some wanted) old new status
    by Usage s read write = absurd s.ended
    by NoMemory s read write = absurd s.ended
    by Done s read write = record { usage = λ e. absurd (cc); no_settings = λ e. absurd (cc); serves = rw (← m, ← f) s; unread = tt; read_fault = read; write_fault = write }
    by Noted s read write = record { usage = λ e. absurd (cc); no_settings = λ e. absurd (cc); serves = rw (← m, ← f) s; unread = tt; read_fault = read; write_fault = write }
    by ReadFault s read write = record { usage = λ e. absurd (cc); no_settings = λ e. absurd (cc); serves = rw (← m, ← f) s; unread = tt; read_fault = read; write_fault = write }
    by WriteFault s read write = record { usage = λ e. absurd (cc); no_settings = λ e. absurd (cc); serves = rw (← m, ← f) s; unread = tt; read_fault = read; write_fault = write }
    by TooLong s read write = record { usage = λ e. absurd (cc); no_settings = λ e. absurd (cc); serves = rw (← m, ← f) s; unread = tt; read_fault = read; write_fault = write }
    by (Bad why) s read write = record { usage = λ e. absurd (cc); no_settings = λ e. absurd (cc); serves = rw (← m, ← f) s; unread = tt; read_fault = read; write_fault = write }

-- a session that was served did not end before its first byte
pub started : (ms : ℕ) (first : Machine) (old new : Outside) (status : RfbStatus) (P : Type 0) → Serves ms first old new status → IfUnstarted status P
started ms first old new Usage P s = absurd s.ended
started ms first old new NoMemory P s = absurd s.ended
started ms first old new Done P s = tt
started ms first old new Noted P s = tt
started ms first old new ReadFault P s = tt
started ms first old new WriteFault P s = tt
started ms first old new TooLong P s = tt
started ms first old new (Bad why) P s = tt

-- The viewer of a run.

stopped_shows : (ms : ℕ) (first : Machine) (old new : Outside) (taken : List ℕ) (status : RfbStatus) → Consumes old.source.left new.source.left taken → Stopped ms first old new taken status → Shows ms first old new
stopped_shows ms first old new taken status source s = record { taken = taken; source = source; whole = s.whole; end = s.end; out = s.writes.out; sees = runs_are_seen ms first s.whole taken }

unread_shows : (ms : ℕ) (first : Machine) (old new : Outside) (taken : List ℕ) → Consumes old.source.left new.source.left taken → Unread ms first old new taken → Shows ms first old new
unread_shows ms first old new taken source s = record { taken = taken; source = source; whole = false; end = tt; out = s.writes.out; sees = runs_are_seen ms first false taken }

shows_by : (wanted : Wanted) (old new : Outside) (status : RfbStatus) → Serves wanted.ms (first_machine wanted.limits) old new status → ShowsAs (Some wanted) old new status
shows_by wanted old new Usage s = tt
shows_by wanted old new NoMemory s = tt
shows_by wanted old new WriteFault s = tt
shows_by wanted old new ReadFault s = unread_shows _ _ old new s.taken s.source s.ended
shows_by wanted old new Done s = stopped_shows _ _ old new s.taken Done s.source s.ended
shows_by wanted old new Noted s = stopped_shows _ _ old new s.taken Noted s.source s.ended
shows_by wanted old new TooLong s = stopped_shows _ _ old new s.taken TooLong s.source s.ended
shows_by wanted old new (Bad why) s = stopped_shows _ _ old new s.taken (Bad why) s.source s.ended

pub shows_served : (settings : Option Wanted) (wanted : Wanted) (ms : ℕ) (first : Machine) (old new : Outside) (status : RfbStatus) → settings ≡ Some wanted → ms ≡ wanted.ms → first ≡ first_machine wanted.limits → Serves ms first old new status →
    ShowsAs settings old new status
shows_served settings wanted ms first old new status e m f s = rw e (shows_by wanted old new status (rw (← m, ← f) s))
