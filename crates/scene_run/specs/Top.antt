-- What the top call comes to, by how it ended: read aloud.
use Rattle.std.specs.Prelude.{◌≡◌, ◌<◌, ◌⊎◌, None}
use Rattle.std.specs.declared.option.Option.{Option}
use Rattle.gui_base.specs.Limits.{Bounds}
use Rattle.gui_edge.specs.Causes.{Rose}
use Rattle.gui_edge.specs.Panel.{StaysClosed}
use Rattle.scene_run.specs.Effects.{WriteFailed}
use Rattle.scene_run.specs.Headline.{Outside, Headline, IfUnstarted}
use Rattle.scene_run.specs.declared.status.Status.{Status}
use Rattle.scene_run.specs.declared.status.Status.TheVariants.{Usage, NoMemory, ReadFault, WriteFault}
use Rattle.scene_run.specs.declared.status.Status.TheVariants.{PanelFault}

-- A run of a scene with the limits that its words have, if they have any. `old` and `new` are what is told of
-- the source, the log and the panel before it and after it, and `status` is how it ended.
pub record RunsScene (words : Option Bounds) (old new : Outside) (status : Status) : Type 0 where
  -- the words are at fault only where they have no limits
  pub usage : status ≡ Usage → words ≡ None
  -- and where they have none, nothing else is answered, but for want of memory
  pub no_limits : words ≡ None → (status ≡ Usage) ⊎ (status ≡ NoMemory)
  -- Where the machine and the panel could be opened, the script is answered. The log and the frames hold its
  -- run, and the panel shows the last frame that was done. Slices have at most the draw buffer's pixels, and no
  -- more was sent than is owed. No more frames and pumps faulted than starts and transfers failed, and each pump
  -- answers as what is pending, drawn and in flight allows. The status is right.
  pub headline : Headline words old new status
  -- before that no byte is read, nothing is written, and the panel stays closed
  pub unread : IfUnstarted status (new.source ≡ old.source)
  pub unwritten : IfUnstarted status (new.output.log ≡ old.output.log)
  pub unsent : IfUnstarted status (StaysClosed old.output.panel new.output.panel)
  -- where the words are at fault the panel is not even asked
  pub unopened : status ≡ Usage → new.output.panel ≡ old.output.panel
  -- the panel stays turned as it was
  pub turn : new.output.panel.turn ≡ old.output.panel.turn
  -- a read fault is answered only where the source's count of faults rose
  pub read_fault : status ≡ ReadFault → Rose old.source.faults new.source.faults
  -- a write fault is answered only where the log's count rose, or the panel's of frames not presented
  pub write_fault : status ≡ WriteFault → WriteFailed old.output new.output
  -- a panel fault is answered only where the panel's count of failed openings and flushes rose
  pub panel_fault : status ≡ PanelFault →
      old.output.panel.flush_faults < new.output.panel.flush_faults
