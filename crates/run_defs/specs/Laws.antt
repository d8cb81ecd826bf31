-- Laws on scripts and runs.
use Rattle.std.specs.Prelude.{◌≡◌, ◌≤◌, ◌<◌, true, false, ℕ, List, ◌++◌, length, replicate, codes, Ok, Err, None, ⊤}
use Rattle.std.specs.List.{flat_map, list_any, AllByRecursion}
use Rattle.gui_base.specs.declared.refusal.Refusal.{Refusal}
use Rattle.gui_base.specs.Limits.{Bounds}
use Rattle.scene_defs.specs.Valid.{IsChange}
use Rattle.run_defs.specs.declared.Command.{Command}
use Rattle.run_defs.specs.declared.Outcome.{Outcome}
use Rattle.run_defs.specs.declared.Line.TheVariants.{Blank, Frame, Pump, Make}
use Rattle.run_defs.specs.declared.Reply.TheVariants.{Refused}
use Rattle.run_defs.specs.Language.{words_of, is_comment, is_control}
use Rattle.run_defs.specs.Made.{made_says}
use Rattle.run_defs.specs.Fields.{Field, Progress, value, past, next_of}
use Rattle.run_defs.specs.Machine.{Machine}
use Rattle.run_defs.specs.Play.{after_changes}
use Rattle.run_defs.specs.Step.{is_command_in_range, IsCommand, step, refused}
use Rattle.run_defs.specs.Script.{Said, parse, max_line, is_newline, without_return, says_cut}
use Rattle.run_defs.specs.Run.{Moment, Entry, entries, FrameKind, kinds_asked, Fits, told, log_text}

-- the log shows the outcomes: two lists with one outcome for each frame and each pump that give the same log
-- are the same list
abbrev pub ShowsOutcomes : Type 0
ShowsOutcomes =
    (es : List Entry) (first second : List Outcome) →
    Fits es first → Fits es second →
    log_text (told es first) ≡ log_text (told es second) → first ≡ second

-- the numbers of what a line says lie in their intervals, and a command is one that may be asked for
abbrev pub IsInRange : Said → Type 0
IsInRange (Ok Blank) = ⊤
IsInRange (Ok Frame) = ⊤
IsInRange (Ok Pump) = ⊤
IsInRange (Ok (Make command)) = (is_command_in_range command ≡ true) × IsCommand command
IsInRange (Err fault) = ⊤

-- no line says a number outside its interval
abbrev pub SaysInRange : Type 0
SaysInRange = (line : List ℕ) → IsInRange (parse line)

-- a line without a fault holds no stand-in: each field of it is what its word says
abbrev pub NoStandIn : Type 0 → Type 0
NoStandIn A =
    (field : Field A) (at : Progress) → (past field at).fault ≡ None →
    field.says (next_of at.rest) ≡ Ok (value field at)

-- and no field before it was at fault
abbrev pub FaultStays : Type 0 → Type 0
FaultStays A = (field : Field A) (at : Progress) → (past field at).fault ≡ None → at.fault ≡ None

-- lines, each with these bytes at its end
abbrev pub ended_with : List ℕ → List (List ℕ) → List ℕ
ended_with ending lines = flat_map (λ line. line ++ ending) lines

-- a line without a newline and without a carriage return at its end, which leaves room for one
pub record IsReturnless (line : List ℕ) : Type 0 where
  pub no_newline : list_any is_newline line ≡ false
  pub no_return : without_return line ≡ line
  pub room : length line < max_line

-- a carriage return before the newline says nothing: lines that end with both say what they say that end with
-- a newline alone
abbrev pub ReturnSaysNothing : Type 0
ReturnSaysNothing =
    (lines : List (List ℕ)) → AllByRecursion IsReturnless lines →
    says_cut (ended_with (codes "\r\n") lines) ≡ says_cut (ended_with (codes "\n") lines)

-- a line that is not too long, no comment, and has no control character
pub record IsPlain (line : List ℕ) : Type 0 where
  pub short : length line ≤ max_line
  pub no_comment : is_comment line ≡ false
  pub clean : list_any is_control line ≡ false

-- such lines say the same where their words are the same, however many spaces stand around them: only the
-- spaces in a text are part of a word
abbrev pub SameWordsSaySame : Type 0
SameWordsSaySame =
    (first second : List ℕ) → IsPlain first → IsPlain second →
    words_of first ≡ words_of second → parse first ≡ parse second

-- the scene after a command is the one after the changes that it makes
abbrev pub StepsChangeTheScene : Type 0
StepsChangeTheScene =
    (machine : Machine) (command : Command) →
    (step machine command).machine.scene ≡ after_changes machine.scene (step machine command).changes

-- each of these may be asked for
abbrev pub StepsAsk : Type 0
StepsAsk =
    (machine : Machine) (command : Command) → IsCommand command →
    AllByRecursion IsChange (step machine command).changes

-- a command that is refused changes nothing and writes nothing
abbrev pub RefusedStepIsNone : Type 0
RefusedStepIsNone =
    (machine : Machine) (command : Command) (refusal : Refusal) →
    (step machine command).reply ≡ Refused refusal → step machine command ≡ refused refusal machine

-- the made script of each number has 1261 lines
abbrev pub MadeHasLines : Type 0
MadeHasLines = (k : ℕ) (limits : Bounds) → length (made_says k limits) ≡ 1261

-- eleven of them ask for a frame, and none for a pump, whatever its numbers are drawn to be
abbrev pub MadeHasFrames : Type 0
MadeHasFrames = (k : ℕ) (limits : Bounds) (now : Moment) →
    flat_map kinds_asked (entries now (made_says k limits)) ≡ replicate 11 FrameKind
