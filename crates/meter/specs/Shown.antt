-- What a frame of a meter does, and why there may be none.
use Rattle.std.specs.Prelude.{◌<◌, IfSome}
use Rattle.std.specs.Io.KnownBytes.{Appends}
use Rattle.gui_edge.specs.Causes.{Rose}
use Rattle.gui_edge.specs.Panel.{PanelState}
use Rattle.gui_base.specs.Ppm.{ppm}
use Rattle.scene_defs.specs.Picture.{picture}
use Rattle.scene_defs.specs.Scene.{Scene}
use Rattle.meter.specs.declared.fault.Fault.{Fault}
use Rattle.meter.specs.declared.fault.Fault.TheVariants as fault

-- the pixels did not come to the panel, or the file of the frame could not be written
abbrev pub Hinders : Fault → PanelState → PanelState → Type 0
Hinders fault.NoMemory old new = ⊥
Hinders fault.Unopened old new = ⊥
Hinders (fault.Refused refusal) old new = ⊥
Hinders fault.Unsent old new = old.flush_faults < new.flush_faults
Hinders fault.Unwritten old new = Rose old.present_faults new.present_faults
Hinders fault.Unread old new = ⊥

-- the file of the picture of this scene was written, where the panel tells what it shows
abbrev pub WritesPicture : PanelState → PanelState → Scene → Type 0
WritesPicture old new scene =
    IfSome new.shows (λ colors. Appends old.frames new.frames (ppm new.width new.height (picture scene)))
