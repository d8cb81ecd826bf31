-- How a run of the made script begins, and how it ends.
use Rattle.std.proofs.Common.{◌≡◌, ◌∙◌, ap, refl, map, ℕ, zero, suc, Bool, true, false, List, [], ◌∷◌, length, replicate, arith, rules, inl, inr, if◌then◌else◌}
use Rattle.std.specs.Prelude.{Ok, Err}
use Rattle.std.proofs.lemmas.List.{length-map}
use Rattle.std.specs.List.{All, flat_map, list_all}
use Rattle.gui_core.specs.Machines.{machine_of, pending_in, refresher_in, stage_of}
use Rattle.gui_core.specs.declared.gui.Gui.{Gui}
use Rattle.gui_edge.specs.Causes.{Rose}
use Rattle.gui_edge.specs.Panel.{PanelState}
use Rattle.gui_play.specs.Panels.{AgreesWith, CanSend}
use Rattle.run_defs.specs.Machine.{Machine}
use Rattle.gui_base.specs.Limits.{Bounds}
use Rattle.run_defs.specs.declared.made.MadeLine.{MadeLine}
use Rattle.run_defs.specs.Made.{made_script, made_says, made_lines, texts_drawn, line_drawn}
use Rattle.run_defs.specs.declared.Line.TheVariants.{Blank, Frame, Pump, Make}
use Rattle.run_defs.specs.Run.{Moment, first_moment, after, after_all, entries, FrameKind, kinds_asked}
use Rattle.run_defs.proofs.MadeFrames.{made_frames}
use Rattle.run_defs.proofs.Ranges.{says_in_range}
use Rattle.run_defs.proofs.Runs.{fits_rest}
use Rattle.run_defs.specs.Laws.{IsInRange}
use Rattle.run_defs.specs.Script.{Said, parse}
use Rattle.scene_defs.specs.Place.{panel_of}
use Rattle.scene_run.specs.Counting.{is_no_pump, making, HasMade}
use Rattle.scene_run.specs.Effects.{Output, output, SinceOpening, WriteFailed, Halted}
use Rattle.scene_run.specs.Headline.{MadeEnded}
use Rattle.scene_run.specs.Making.{AnswersMade, MadeHalted, panel_alone}
use Rattle.scene_run.specs.declared.made.Making.{Making}
use Rattle.scene_run.specs.declared.status.Status.TheVariants.{Done, Noted}
use Rattle.scene_run.specs.Running.{IsReady, IsStill}
use Rattle.scene_run.proofs.Effects.{fails_at_frame}
use Rattle.scene_run.proofs.Going.{halted_cause}
use Rattle.scene_run.proofs.Gone.{answered_none}

pub made_noting : (k : ℕ) (first : Machine) (old new : Output) (notes : Bool) → AnswersMade k first old new notes → MadeEnded k first old new (if notes then Noted else Done)
made_noting k first old new true e = e
made_noting k first old new false e = e

-- the count of failed frames rose since the start
pub halted_rose : (first : Machine) (before after : PanelState) (lines : List Said) → Halted first (panel_alone before) (panel_alone after) lines → Rose before.present_faults after.present_faults
halted_rose first before after lines h = by (halted_cause first (panel_alone before) (panel_alone after) lines h) where
  by : WriteFailed (panel_alone before) (panel_alone after) → Rose before.present_faults after.present_faults
  by (inl e) = absurd (omega arith)
  by (inr e) = e

-- a run that ended at a line of it ended at a frame that could not be presented
pub made_halted : (k : ℕ) (first : Machine) (old : Output) (after : PanelState) → Halted first (panel_alone old.panel) (panel_alone after) (made_says k first.scene.limits) → MadeHalted k first old (output old.log after)
made_halted k first old after h =
    let at = fails_at_frame h.between after (after_all (first_moment first) h.answered) h.said h.breaks.last h.breaks.cause in
    record { halted = h; at_frame = at.0; left_out = at.1; log = refl; cause = halted_rose first old.panel after _ h }

-- the made script has 1261 lines
drawn_length : (width height : ℕ) (lines : List MadeLine) (x : ℕ) → length (texts_drawn width height lines x) ≡ length lines
drawn_length width height [] x = refl
drawn_length width height (line ∷ lines) x = ap (λ (n : ℕ). suc n) (drawn_length width height lines (line_drawn width height line x).x)

pub made_count : (k : ℕ) (limits : Bounds) → length (made_says k limits) ≡ 1261
unfolding made_lines
made_count k limits = length-map (made_script k limits) (λ line. parse line) ∙ drawn_length limits.width limits.height made_lines k

-- no number of it lies outside its interval
all_in_range : (lines : List (List ℕ)) → All IsInRange (map (λ line. parse line) lines)
all_in_range [] k d below = absurd (omega (arith, below))
all_in_range (line ∷ lines) zero d below = says_in_range line
all_in_range (line ∷ lines) (suc k) d below = all_in_range lines k d (omega (arith, below))

pub made_in_range : (k : ℕ) (limits : Bounds) → All IsInRange (made_says k limits)
made_in_range k limits = all_in_range (made_script k limits)

-- a run that has made nothing yet
abbrev pub fresh : Gui → Making
fresh gui = record { gui = gui; lines = 0; refused = 0; frames = 0; faults = 0 }

pub made_new : (gui : Gui) (before panel : PanelState) → (pending_in gui).areas ≡ panel_of (machine_of gui).scene ∷ [] → IsStill (refresher_in gui) → CanSend (stage_of gui panel) (machine_of gui).scene → SinceOpening before panel →
    HasMade (machine_of gui) before (fresh gui) panel []
made_new gui before panel whole still can since = record {
  answered = answered_none (machine_of gui) before (making (fresh gui) panel) refl tt whole still can since;
  counts = search rules;
  free = let two = still.free in omega arith;
}

pub made_ready : (gui : Gui) (panel : PanelState) (k : ℕ) (limits : Bounds) → CanSend (stage_of gui panel) (machine_of gui).scene → AgreesWith (stage_of gui panel) (machine_of gui).scene →
    IsReady (making (fresh gui) panel) (length (made_says k limits))
made_ready gui panel k limits can agrees = record { can = can; agrees = agrees; number = omega (arith, made_count k limits); frame = omega (arith, made_count k limits) }

-- lines that ask for frames alone have no pump
frames_alone : (now : Moment) (lines : List Said) (n : ℕ) → flat_map kinds_asked (entries now lines) ≡ replicate n FrameKind → list_all is_no_pump lines ≡ true
frames_alone now [] n h = refl
frames_alone now (Ok Blank ∷ lines) n h = frames_alone (after now (Ok Blank)) lines n h
frames_alone now (Ok Frame ∷ lines) zero h = cc
frames_alone now (Ok Frame ∷ lines) (suc n) h = frames_alone (after now (Ok Frame)) lines n (fits_rest _ _ _ _ h)
frames_alone now (Ok Pump ∷ lines) zero h = cc
frames_alone now (Ok Pump ∷ lines) (suc n) h = cc
frames_alone now (Ok (Make command) ∷ lines) n h = frames_alone (after now (Ok (Make command))) lines n h
frames_alone now (Err fault ∷ lines) n h = frames_alone (after now (Err fault)) lines n h

-- as the made script does
pub made_no_pump : (first : Machine) (k : ℕ) (limits : Bounds) → list_all is_no_pump (made_says k limits) ≡ true
made_no_pump first k limits = frames_alone (first_moment first) (made_says k limits) 11 (made_frames k limits (first_moment first))
