-- How effects go on, and what a line does before a write fails.
use Rattle.std.proofs.Common.{◌≡◌, ◌∙◌, ◌≤◌, ℕ, List, [], ◌∷◌, ◌++◌, arith, rules, refl, inl, inr, append-nil, Option, Ok, Err}
use Rattle.std.specs.Prelude.{IfSome}
use Rattle.std.specs.Io.KnownBytes.{Appends}
use Rattle.std.proofs.KnownBytes.{Appends-trans, Appends-nil}
use Rattle.std.proofs.lemmas.Grind.{flat_map-append}
use Rattle.std.proofs.lemmas.List.Elements.{filter_map-append}
use Rattle.std.proofs.lemmas.List.Sums.{fold-append}
use Rattle.scene_defs.specs.Scene.{Scene}
use Rattle.run_defs.specs.declared.Line.TheVariants.{Blank, Frame, Pump, Make}
use Rattle.run_defs.specs.declared.Outcome.{Outcome}
use Rattle.run_defs.specs.declared.Reply.{Reply}
use Rattle.run_defs.specs.Run.{Moment, Entry, Silent, Replies, Frames, Pumps, entry, Told, Replied, log_lines, done_scene, done_scenes, frame_file, last_done, ShowsScene}
use Rattle.run_defs.specs.Script.{Said}
use Rattle.run_defs.proofs.Runs.{fault_count-append}
use Rattle.gui_edge.specs.Causes.{Rose}
use Rattle.gui_edge.specs.Panel.{PanelState}
use Rattle.gui_edge.specs.Sink.{SinkState, AppendsPrefix}
use Rattle.scene_run.specs.Effects.{Output, output, PanelKeeps, Effects, Breaks, BreakCause, WriteFailed}
use Rattle.scene_run.specs.Making.{panel_alone}

-- nothing is a prefix of anything
pub AppendsPrefix-nothing : (a : Option (List ℕ)) (bytes : List ℕ) → AppendsPrefix a a bytes
AppendsPrefix-nothing a bytes = record { prefix = []; rest = bytes; whole = refl; grows = Appends-nil a }

keeps_more : {a b c : PanelState} → PanelKeeps a b → PanelKeeps b c → PanelKeeps a c
keeps_more h k = record {
  told = λ t. k.told (h.told t);
  flush_faults = omega (arith, h.flush_faults, k.flush_faults);
  present_faults = omega (arith, h.present_faults, k.present_faults);
  turn = k.turn ∙ h.turn;
}

pub Effects-more : (a b c : Output) (seen : Option Scene) (ts us : List Told) → Effects a b seen ts → Effects b c (last_done seen ts) us → Effects a c seen (ts ++ us)
Effects-more a b c seen ts us h k = record {
  panel = record {
    frames = λ t. rw (filter_map-append done_scene ts us, flat_map-append frame_file (done_scenes ts) (done_scenes us)) (Appends-trans _ _ _ _ _ (h.panel.frames t) (k.panel.frames (h.panel.keeps.told t)));
    shown = rw (fold-append (λ (earlier : Option Scene) (t : Told). done_scene t) seen ts us) k.panel.shown;
    faults = omega (arith, fault_count-append ts us, h.panel.faults, k.panel.faults);
    keeps = keeps_more h.panel.keeps k.panel.keeps;
  };
  log = rw (flat_map-append log_lines ts us) (Appends-trans _ _ _ _ _ h.log k.log);
  log_faults = search rules;
}

-- a line that says nothing does nothing
pub no_effects : (now : Output) (seen : Option Scene) → IfSome seen (ShowsScene now.panel.shows) → Effects now now seen []
no_effects now seen shown = record {
  panel = record {
    frames = λ t. Appends-nil now.panel.frames;
    shown = shown;
    faults = omega arith;
    keeps = record { told = λ t. t; flush_faults = omega arith; present_faults = omega arith; turn = refl };
  };
  log = Appends-nil now.log.held;
  log_faults = omega arith;
}

-- the log did not take the lines of a reply whole
unfoldable pub breaks_reply : (a b : SinkState) (p : PanelState) (n : ℕ) (lines : List ℕ) (reply : Reply) → AppendsPrefix a.held b.held (log_lines (Replied n lines reply)) → Rose a.faults b.faults →
    Breaks (output a p) (output b p) (Replies n lines reply)
breaks_reply a b p n lines reply prefix rose = record {
  last = [];
  one = inl refl;
  log = rw (append-nil (log_lines (Replied n lines reply))) prefix;
  frames = λ t. AppendsPrefix-nothing p.frames [];
  shown = tt;
  faults = omega arith;
  turn = refl;
  cause = rose;
}

-- the log took the lines of a reply whole
pub reply_effects : (a b : SinkState) (p : PanelState) (seen : Option Scene) (n : ℕ) (lines : List ℕ) (reply : Reply) → Appends a.held b.held (log_lines (Replied n lines reply)) → a.faults ≤ b.faults →
    Effects (output a p) (output b p) seen (Replied n lines reply ∷ [])
reply_effects a b p seen n lines reply grows later = record {
  panel = record {
    frames = λ t. Appends-nil p.frames;
    shown = tt;
    faults = omega arith;
    keeps = record { told = λ t. t; flush_faults = omega arith; present_faults = omega arith; turn = refl };
  };
  log = rw (append-nil (log_lines (Replied n lines reply))) grows;
  log_faults = later;
}

-- what failed at a line is a write
pub break_cause : (a b : Output) (e : Entry) (last : List Outcome) → BreakCause a b e last → WriteFailed a b
break_cause a b Silent last h = absurd h
break_cause a b (Replies number lines reply) last h = inl h
break_cause a b (Frames number frame scene) [] h = inr h.panel
break_cause a b (Frames number frame scene) (outcome ∷ outcomes) h = inl h
break_cause a b (Pumps number) [] h = absurd h
break_cause a b (Pumps number) (outcome ∷ outcomes) h = inl h

-- where nobody reads the log, only a frame can fail: one that could not be presented
pub fails_at_frame : (mid : Output) (after : PanelState) (now : Moment) (said : Said) (last : List Outcome) → BreakCause mid (panel_alone after) (entry now said) last → (said ≡ Ok Frame) × (last ≡ [])
fails_at_frame mid after now (Ok Blank) last h = absurd h
fails_at_frame mid after now (Ok Frame) [] h = (refl, refl)
fails_at_frame mid after now (Ok Frame) (outcome ∷ outcomes) h = absurd (omega arith)
fails_at_frame mid after now (Ok Pump) [] h = absurd h
fails_at_frame mid after now (Ok Pump) (outcome ∷ outcomes) h = absurd (omega arith)
fails_at_frame mid after now (Ok (Make command)) last h = absurd (omega arith)
fails_at_frame mid after now (Err fault) last h = absurd (omega arith)
