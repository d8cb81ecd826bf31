-- What lines of the script do to the log and to the panel.
use Rattle.std.specs.Prelude.{◌≡◌, ℕ, ◌+◌, ◌-◌, ◌≤◌, ◌⊎◌, List, [], ◌∷◌, ◌++◌, IsSome, IfSome, None, Ok}
use Rattle.std.specs.declared.option.Option.{Option}
use Rattle.std.specs.Io.KnownBytes.{Appends}
use Rattle.scene_defs.specs.Scene.{Scene}
use Rattle.run_defs.specs.declared.FrameEnd.{FrameEnd}
use Rattle.run_defs.specs.declared.Line.TheVariants.{Frame}
use Rattle.run_defs.specs.declared.Outcome.{Outcome}
use Rattle.run_defs.specs.declared.Outcome.TheVariants.{Frame as OfFrame}
use Rattle.run_defs.specs.Script.{Said}
use Rattle.run_defs.specs.Machine.{Machine}
use Rattle.run_defs.specs.Run.{Entry, Silent, Replies, Frames, Pumps, Told, Fits, moment, first_moment}
use Rattle.run_defs.specs.Run.{entry, after_all, entries, told}
use Rattle.run_defs.specs.Run.{log_text, frame_file, frame_files, file_asked, last_done, fault_count, ShowsScene}
use Rattle.gui_edge.specs.Causes.{Rose}
use Rattle.gui_edge.specs.Sink.{SinkState, AppendsPrefix}
use Rattle.gui_edge.specs.Panel.{PanelState, HasSizes}
use Rattle.gui_refresh.specs.Owing.{standing_of, flight_of}
use Rattle.gui_refresh.specs.Stages.{Stage}
use Rattle.owed_defs.specs.Flights.{Flight, grown}
use Rattle.run_laws.specs.Accounts.{LineCounts}
use Rattle.run_defs.specs.Owing.{may_send, PumpsAsOwed}
use Rattle.run_laws.specs.Pumping.{LineFlies}

-- what a run writes to
pub record Output : Type 0 where
  pub log : SinkState
  pub panel : PanelState

-- a log and a panel
abbrev pub output : SinkState → PanelState → Output
output log panel = record { log = log; panel = panel }

-- a panel goes on telling what it shows, its counts do not fall, and it stays turned as it was
pub record PanelKeeps (old new : PanelState) : Type 0 where
  pub told : IsSome old.shows → IsSome new.shows
  pub flush_faults : old.flush_faults ≤ new.flush_faults
  pub present_faults : old.present_faults ≤ new.present_faults
  pub turn : new.turn ≡ old.turn

-- What the panel got of these told lines. `seen` is the scene that it showed before, where that is known.
pub record PanelEffects (old new : PanelState) (seen : Option Scene) (ts : List Told) : Type 0 where
  -- the frames grew by the pictures of the scenes at the done frame lines, in order
  pub frames : IsSome old.shows → Appends old.frames new.frames (frame_files ts)
  -- where the last reply is that of a done frame, the panel shows its picture
  pub shown : IfSome (last_done seen ts) (ShowsScene new.shows)
  -- there are no more fault lines, of frames and of pumps, than failed starts and transfers
  pub faults : old.flush_faults + fault_count ts ≤ new.flush_faults
  pub keeps : PanelKeeps old new

-- What the log and the panel got of these told lines.
pub record Effects (old new : Output) (seen : Option Scene) (ts : List Told) : Type 0 where
  pub panel : PanelEffects old.panel new.panel seen ts
  -- the log grew by its text
  pub log : Appends old.log.held new.log.held (log_text ts)
  pub log_faults : old.log.faults ≤ new.log.faults

-- a write of the log or of a frame failed
abbrev pub WriteFailed : Output → Output → Type 0
WriteFailed old new =
    Rose old.log.faults new.log.faults ⊎ Rose old.panel.present_faults new.panel.present_faults

-- What came to the frames at a line where a write failed. Of a frame that could not be presented, and so has
-- no outcome, it is a prefix of its picture; of one that has an outcome it is the whole picture where it was
-- done, and nothing where it faulted. A pump writes nothing there.
abbrev pub FrameWritten : Option (List ℕ) → Option (List ℕ) → Entry → List Outcome → Type 0
FrameWritten old new e [] = AppendsPrefix old new (file_asked e)
FrameWritten old new e (outcome ∷ outcomes) =
    Appends old new (frame_files (told (e ∷ []) (outcome ∷ outcomes)))

-- a frame could not be presented, and the log stays as it was
pub record PresentFailed (old new : Output) : Type 0 where
  pub log : new.log ≡ old.log
  pub panel : Rose old.panel.present_faults new.panel.present_faults

-- What failed at a line: the presenting of its frame, where that has no outcome, and else the log. Nothing
-- fails at a line that asks for nothing, and a pump has an outcome.
abbrev pub BreakCause : Output → Output → Entry → List Outcome → Type 0
BreakCause old new Silent last = ⊥
BreakCause old new (Replies number lines reply) last = Rose old.log.faults new.log.faults
BreakCause old new (Frames number frame scene) [] = PresentFailed old new
BreakCause old new (Frames number frame scene) (outcome ∷ outcomes) =
    Rose old.log.faults new.log.faults
BreakCause old new (Pumps number) [] = ⊥
BreakCause old new (Pumps number) (outcome ∷ outcomes) = Rose old.log.faults new.log.faults

-- A write failed at a line.
pub record Breaks (old new : Output) (e : Entry) : Type 0 where
  -- the outcome of its frame or its pump, where it came to one
  pub last : List Outcome
  pub one : (last ≡ []) ⊎ Fits (e ∷ []) last
  -- the log grew by a prefix of what is told of it with this outcome
  pub log : AppendsPrefix old.log.held new.log.held (log_text (told (e ∷ []) last))
  -- the frames grew by its picture, which is whole where its frame was done
  pub frames : IsSome old.panel.shows → FrameWritten old.panel.frames new.panel.frames e last
  -- where its frame was done, the panel shows the picture
  pub shown : IfSome (last_done None (told (e ∷ []) last)) (ShowsScene new.panel.shows)
  -- it faulted only where a start or a transfer failed
  pub faults : old.panel.flush_faults + fault_count (told (e ∷ []) last) ≤ new.panel.flush_faults
  -- the panel stays turned as it was
  pub turn : new.panel.turn ≡ old.panel.turn
  -- what failed
  pub cause : BreakCause old new e last

-- The panel was asked for no more pixels than these lines owe with these outcomes: in each window what its
-- commands owe, and the whole panel for each time that the list can have overflowed; and for each start or
-- transfer that failed a slice and the whole panel.
abbrev pub SendsAsOwed : Machine → PanelState → PanelState → List Said → List Outcome → Type 0
SendsAsOwed first old new lines outcomes =
    new.sent ≤ old.sent + may_send first lines outcomes (new.flush_faults - old.flush_faults)

-- The pump lines answer as what is pending, drawn and in flight allows: at rest a pump is idle, and where
-- something is pending and nothing drawn or in flight it moves, so none faults in these two. There are at most
-- three moved ones for each pixel asked for, and one, and at most as many waiting ones as polls that told so.
abbrev pub PumpsAsAllowed : Machine → PanelState → PanelState → List Said → List Outcome → Type 0
PumpsAsAllowed first old new lines outcomes =
    PumpsAsOwed first lines outcomes old.sent old.waits new.sent new.waits

-- These lines were answered from this machine on, each with its reply, and each frame line and each pump line
-- with its outcome.
pub record Answers (first : Machine) (old new : Output) (lines : List Said) : Type 0 where
  -- each frame line and each pump line has an outcome of its kind
  pub outcomes : List Outcome
  pub fits : Fits (entries (first_moment first) lines) outcomes
  -- what is told of the lines with these outcomes came to the log and the panel
  pub effects : Effects old new None (told (entries (first_moment first) lines) outcomes)
  -- the panel is opened with the limits' sizes
  pub slices : HasSizes new.panel first.scene.limits
  -- no more was sent than is owed
  pub owed : SendsAsOwed first old.panel new.panel lines outcomes
  -- the pumps answered as they may
  pub pumps : PumpsAsAllowed first old.panel new.panel lines outcomes

-- A write failed at one of these lines: those before it were answered, and those after it were not reached.
pub record Halted (first : Machine) (old new : Output) (lines : List Said) : Type 0 where
  pub answered : List Said
  pub said : Said
  pub unreached : List Said
  pub lines_are : answered ++ said ∷ unreached ≡ lines
  -- what was written before it
  pub between : Output
  pub answers : Answers first old between answered
  pub breaks : Breaks between new (entry (after_all (first_moment first) answered) said)
  pub slices : HasSizes new.panel first.scene.limits
  -- no more was sent than the lines before it and the line itself owe
  pub owed : SendsAsOwed first old.panel new.panel (answered ++ said ∷ []) (answers.outcomes ++ breaks.last)
  -- the pumps answered as they may, that of the line itself too
  pub pumps : PumpsAsAllowed first old.panel new.panel (answered ++ said ∷ []) (answers.outcomes ++ breaks.last)

-- how all stands after a frame line that ended so
abbrev pub FrameFlies : Machine → FrameEnd → Flight → Flight → Type 0
FrameFlies machine end old new = LineFlies machine (Ok Frame) (OfFrame end ∷ []) old new

-- a panel was asked for some more pixels
pub record GrewBy (old new : PanelState) : Type 0 where
  pub asked : ℕ
  pub sent : grown old.sent asked ≤ new.sent
  pub waited : grown old.waits 0 ≤ new.waits

-- A write failed at a line, before which all stood as in the first stage and after which as in the other.
pub record LineBreaks (machine : Machine) (number frame : ℕ) (said : Said) (old new : Output)
    (before after : Stage) : Type 0 where
  pub breaks : Breaks old new (entry (moment machine number frame) said)
  -- what it sent by then
  pub counts : LineCounts machine.scene.limits machine said breaks.last (standing_of before)
      (standing_of after)
  -- how its frame or its pump went on, or what a frame asked for that came to no outcome
  pub flies : (Fits (entry (moment machine number frame) said ∷ []) breaks.last
      × LineFlies machine said breaks.last (flight_of before) (flight_of after))
      ⊎ ((breaks.last ≡ []) × GrewBy old.panel new.panel)

-- a panel was opened, and nothing came to it since
pub record SinceOpening (old new : PanelState) : Type 0 where
  pub effects : PanelEffects old new None []
  pub sent : new.sent ≡ old.sent
  pub waits : new.waits ≡ old.waits
  pub flush_faults : new.flush_faults ≡ old.flush_faults

-- a frame could not be presented whole
pub record FrameBroke (old new : PanelState) (scene : Scene) : Type 0 where
  pub frames : IsSome old.shows → AppendsPrefix old.frames new.frames (frame_file scene)
  pub faults : old.flush_faults ≤ new.flush_faults
  pub grew : GrewBy old new
  pub turn : new.turn ≡ old.turn
  pub cause : Rose old.present_faults new.present_faults
