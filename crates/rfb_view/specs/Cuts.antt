-- What the line comes to that a cutter's last answer made whole.
use Rattle.std.specs.Prelude.{◌≡◌, ℕ, ◌+◌, Bool, true, false, ◌||◌, List, [], ◌∷◌, Some, None}
use Rattle.std.specs.declared.option.Option.{Option}
use Rattle.std.specs.Io.KnownBytes.{Appends}
use Rattle.gui_edge.specs.Sink.{AppendsPrefix}
use Rattle.run_defs.specs.Machine.{Machine}
use Rattle.run_defs.specs.Run.{machine_after, log_text, noted}
use Rattle.run_defs.specs.Script.{Said}
use Rattle.scene_script.specs.Cutting.{Cutting, line_of}
use Rattle.scene_script.specs.declared.cutter.Cut.{Cut}
use Rattle.scene_script.specs.declared.cutter.Cut.TheVariants.{More, Line, Long}
use Rattle.session_defs.specs.Parts.{is_rfb}
use Rattle.session_defs.specs.Sessions.{unframed, version}
use Rattle.rfb_view.specs.Talking.{Outs}
use Rattle.rfb_view.specs.Telling.{line_tells}
use Rattle.rfb_view.specs.declared.run.Run.{Run}

-- whether it is the line `rfb`
abbrev pub begins_by : Cut → Option (List ℕ) → Bool → Bool
begins_by More bytes last = false
begins_by Line None last = false
begins_by Line (Some bytes) last = is_rfb (line_of last bytes)
begins_by Long bytes last = false

abbrev pub begins : Cutting → Bool
begins c = begins_by c.answer c.bytes c.last

-- The session has begun.
pub record Begins (was : Machine) (old : Run) (before : Outs) (is : Machine) (new : Run) (after : Outs) :
    Type 0 where
  pub machine : is ≡ was
  pub run : new ≡ record old { begun = true }
  pub out : Appends before.out.held after.out.held version
  pub log : after.log ≡ before.log

-- No line is whole.
pub record Waits (was : Machine) (old : Run) (before : Outs) (is : Machine) (new : Run) (after : Outs) :
    Type 0 where
  pub machine : is ≡ was
  pub run : new ≡ old
  pub outs_are : after ≡ before

-- A line was answered that says so.
pub record AnswersLine (said : Said) (was : Machine) (old : Run) (before : Outs) (is : Machine) (new : Run)
    (after : Outs) : Type 0 where
  pub machine : is ≡ machine_after was (unframed said)
  pub run : new ≡ record old {
    number = old.number + 1;
    talk = record old.talk { noted = old.talk.noted || noted (line_tells was old.number said) };
  }
  pub out : after.out ≡ before.out
  pub log : Appends before.log.held after.log.held (log_text (line_tells was old.number said))

-- by whether it is the line `rfb`, and what it says, if there is one
abbrev pub CutDone : Bool → List Said → Machine → Run → Outs → Machine → Run → Outs → Type 0
CutDone true says was old before is new after = Begins was old before is new after
CutDone false [] was old before is new after = Waits was old before is new after
CutDone false (said ∷ says) was old before is new after = AnswersLine said was old before is new after

-- A write failed.
abbrev pub CutBroke : Bool → List Said → Machine → Run → Outs → Outs → Type 0
CutBroke true says was old before after =
    (after.log ≡ before.log) × AppendsPrefix before.out.held after.out.held version
CutBroke false [] was old before after = ⊥
CutBroke false (said ∷ says) was old before after =
    (after.out ≡ before.out)
    × AppendsPrefix before.log.held after.log.held (log_text (line_tells was old.number said))
