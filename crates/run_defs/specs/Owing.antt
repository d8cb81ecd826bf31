-- What the lines of a script owe, the windows that its done frames end, and what its pumps may answer.
use Rattle.std.specs.Prelude.{ℕ, ◌*◌, Ok, Err, List, [], ◌∷◌, ◌++◌, drop}
use Rattle.gui_base.specs.Area.{Rect}
use Rattle.gui_base.specs.Limits.{Bounds}
use Rattle.scene_defs.specs.declared.Change.{Change}
use Rattle.scene_defs.specs.Change.{changed}
use Rattle.scene_defs.specs.Scene.{Scene}
use Rattle.run_defs.specs.declared.Command.{Command}
use Rattle.run_defs.specs.declared.FrameEnd.{FrameEnd}
use Rattle.run_defs.specs.declared.FrameEnd.TheVariants.{Done, Fault}
use Rattle.run_defs.specs.declared.Line.TheVariants.{Blank, Frame, Pump, Make}
use Rattle.run_defs.specs.declared.Outcome.{Outcome}
use Rattle.run_defs.specs.declared.Outcome.TheVariants.{Frame as OfFrame, Pump as OfPump}
use Rattle.run_defs.specs.Machine.{Machine}
use Rattle.run_defs.specs.Run.{Moment, first_moment, after, outcomes_asked}
use Rattle.run_defs.specs.Script.{Said}
use Rattle.run_defs.specs.Step.{step}
use Rattle.debt_defs.specs.Scenes.{debt_of}
use Rattle.owed_defs.specs.Flights.{PumpsWithin}
use Rattle.owed_defs.specs.Happenings.{Happening, Owes, Finished, Faulted, Pumps, debt_of as sizes_of}
use Rattle.owed_defs.specs.Windows.{Window, windows, allowance}

-- the areas that changes owe, in order, each in the scene that those before it left
abbrev pub owed_along : Scene → List Change → List Rect
owed_along scene [] = []
owed_along scene (change ∷ changes) = debt_of scene change ++ owed_along (changed scene change) changes

-- the areas that a command owes: those of the changes that it makes
abbrev pub command_owes : Machine → Command → List Rect
command_owes machine command = owed_along machine.scene (step machine command).changes

-- what happens at a frame that ended so
abbrev pub frame_end : FrameEnd → Happening
frame_end Done = Finished
frame_end Fault = Faulted

-- What happens at a line. The first of the outcomes is that of its frame or of its pump; a frame that could
-- not be presented has none.
abbrev pub happens : Machine → Said → List Outcome → List Happening
happens machine (Ok Blank) outcomes = []
happens machine (Ok Frame) [] = []
happens machine (Ok Frame) (OfFrame end ∷ outcomes) = frame_end end ∷ []
happens machine (Ok Frame) (OfPump answer ∷ outcomes) = []
happens machine (Ok Pump) [] = []
happens machine (Ok Pump) (OfFrame end ∷ outcomes) = []
happens machine (Ok Pump) (OfPump answer ∷ outcomes) = Pumps answer ∷ []
happens machine (Ok (Make command)) outcomes = Owes (sizes_of (command_owes machine command)) ∷ []
happens machine (Err fault) outcomes = []

-- what happens at these lines, each frame and each pump with the outcome that is next
abbrev pub happenings : Moment → List Said → List Outcome → List Happening
happenings now [] outcomes = []
happenings now (said ∷ lines) outcomes =
    happens now.machine said outcomes
    ++ happenings (after now said) lines (drop (outcomes_asked said) outcomes)

-- how many pixels the panel has
abbrev pub panel_size : Bounds → ℕ
panel_size limits = limits.width * limits.height

-- how many pixels a slice may have
abbrev pub slice_limit : Bounds → ℕ
slice_limit limits = limits.width * limits.lines

-- the windows of a run with these outcomes, the open one first
abbrev pub run_windows : Machine → List Said → List Outcome → List Window
run_windows first lines outcomes =
    windows (panel_size first.scene.limits) (happenings (first_moment first) lines outcomes)

-- how many pixels may be sent in it where so many starts and transfers fail
abbrev pub may_send : Machine → List Said → List Outcome → ℕ → ℕ
may_send first lines outcomes faults =
    allowance (panel_size first.scene.limits) (slice_limit first.scene.limits)
    (run_windows first lines outcomes) faults

-- The pumps of a run answer as they may, as a claim on how many pixels were sent, and on how many polls told of
-- a transfer in flight.
abbrev pub PumpsAsOwed : Machine → List Said → List Outcome → ℕ → ℕ → ℕ → ℕ → Type 0
PumpsAsOwed first lines outcomes sent waits new_sent new_waits =
    PumpsWithin (happenings (first_moment first) lines outcomes) sent waits new_sent new_waits
