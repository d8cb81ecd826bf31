-- The windows of a run that were worked out by hand.
use Rattle.std.specs.Prelude.{◌≡◌, ℕ, List, [], ◌∷◌, ◌++◌, replicate, map, codes, Ok, pos}
use Rattle.gui_base.specs.declared.Handle.{Handle}
use Rattle.gui_base.specs.declared.props.Prop.TheVariants.{BgColor, BgOpa}
use Rattle.gui_base.specs.declared.words.Kind.TheVariants.{Obj}
use Rattle.gui_base.specs.declared.words.Length.TheVariants.{Pixels}
use Rattle.gui_base.specs.declared.words.Part.TheVariants.{Main}
use Rattle.gui_base.specs.Limits.{with_sizes}
use Rattle.scene_defs.specs.declared.Change.{Change}
use Rattle.scene_defs.specs.declared.Change.TheVariants as change
use Rattle.scene_defs.specs.Scene.{first_scene}
use Rattle.run_defs.specs.declared.Command.TheVariants.{Change as CommandOf}
use Rattle.run_defs.specs.declared.FrameEnd.TheVariants.{Done, Fault}
use Rattle.run_defs.specs.declared.Line.TheVariants.{Frame, Pump, Make}
use Rattle.run_defs.specs.declared.Outcome.{Outcome}
use Rattle.run_defs.specs.declared.Outcome.TheVariants.{Frame as OfFrame, Pump as OfPump}
use Rattle.run_defs.specs.Run.{Fits, first_moment, entries, told, log_text, done_scenes}
use Rattle.owed_defs.specs.Happenings.{Happening, Owes, Finished, Pumps}
use Rattle.owed_defs.specs.Pumping.{Fresh, Obeys}
use Rattle.owed_defs.specs.declared.Pumped.TheVariants.{Moved, Waiting}
use Rattle.scene_defs.specs.Picture.{picture}
use Rattle.run_defs.specs.Machine.{Machine, first_machine}
use Rattle.run_defs.specs.Script.{Said}
use Rattle.run_defs.specs.Owing.{run_windows, happenings}

abbrev handle : ℕ → Handle
handle h = record { 0 = h }

-- a panel of 120 by 60 pixels that shows an empty screen, with a book for the handles below 12
abbrev machine : Machine
machine = record (first_machine (with_sizes 120 60 4)) {
  scene = record (first_scene (with_sizes 120 60 4)) {
    book = record { styles = []; locals = replicate 12 []; uses = replicate 12 [] };
  };
  handlers = replicate 12 [];
}

abbrev makes : Change → Said
makes change = Ok (Make (CommandOf change))

-- An object of 100 by 50 pixels is made and moved, a frame faults, the same object is refused, and a frame is
-- done.
abbrev lines : List Said
lines =
    Ok Frame
    ∷ makes (change.New (handle 10) (handle 3) Obj)
    ∷ makes (change.Pos (handle 10) (pos 1) (pos 0))
    ∷ Ok Frame
    ∷ makes (change.New (handle 10) (handle 3) Obj)
    ∷ Ok Frame
    ∷ []

-- the panel at first, then the object's place, and both its places
abbrev pub WindowsAreWorked : Type 0
WindowsAreWorked =
    run_windows machine lines (OfFrame Done ∷ OfFrame Fault ∷ OfFrame Done ∷ [])
    ≡ record { size = 0; count = 0 }
    ∷ record { size = 15000; count = 3 }
    ∷ record { size = 7200; count = 1 }
    ∷ []

-- the same on a panel of 4 by 2 pixels that takes a line
abbrev small : Machine
small = record (first_machine (with_sizes 4 2 1)) {
  scene = record (first_scene (with_sizes 4 2 1)) {
    book = record { styles = []; locals = replicate 12 []; uses = replicate 12 [] };
  };
  handlers = replicate 12 [];
}

-- An object takes the upper line in red. Two pumps move. It turns green while red is in flight; a pump moves,
-- one waits, and a frame is done.
abbrev pumped_lines : List Said
pumped_lines =
    makes (change.New (handle 10) (handle 3) Obj)
    ∷ makes (change.Size (handle 10) (Pixels 4) (Pixels 1))
    ∷ makes (change.Local (handle 10) (record { part = Main; states = 0 }) BgOpa (pos 255))
    ∷ makes (change.Local (handle 10) (record { part = Main; states = 0 }) BgColor (pos 16711680))
    ∷ Ok Pump
    ∷ Ok Pump
    ∷ makes (change.Local (handle 10) (record { part = Main; states = 0 }) BgColor (pos 65280))
    ∷ Ok Pump
    ∷ Ok Pump
    ∷ Ok Frame
    ∷ []

abbrev pumped_outcomes : List Outcome
pumped_outcomes = OfPump Moved ∷ OfPump Moved ∷ OfPump Moved ∷ OfPump Waiting ∷ OfFrame Done ∷ []

abbrev owes : ℕ → ℕ → Happening
owes size count = Owes (record { size = size; count = count })

pub record PumpsAreWorked : Type 0 where
  pub fits : Fits (entries (first_moment small) pumped_lines) pumped_outcomes
  pub log : log_text (told (entries (first_moment small) pumped_lines) pumped_outcomes)
      ≡ codes "1 ok\n2 ok\n3 ok\n4 ok\n5 pump moved\n6 pump moved\n7 ok\n8 pump moved\n"
      ++ codes "9 pump waiting\n10 frame 1 done\n"
  pub happens : happenings (first_moment small) pumped_lines pumped_outcomes
      ≡ owes 8 1 ∷ owes 12 2 ∷ owes 4 1 ∷ owes 4 1 ∷ Pumps Moved ∷ Pumps Moved ∷ owes 4 1 ∷ Pumps Moved
      ∷ Pumps Waiting ∷ Finished ∷ []
  pub obeys : Obeys Fresh (happenings (first_moment small) pumped_lines pumped_outcomes)
  pub shows : map picture (done_scenes (told (entries (first_moment small) pumped_lines) pumped_outcomes))
      ≡ (replicate 4 (record { 0 = 2016 }) ++ replicate 4 (record { 0 = 65535 })) ∷ []
