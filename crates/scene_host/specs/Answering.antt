-- What is answered to the questions of a script, along its lines.
use Rattle.std.specs.Prelude.{◌≡◌, ℕ, ◌≤◌, Bool, true, false, nat_lt, if◌then◌else◌, List, [], ◌∷◌, ◌++◌, length}
use Rattle.std.specs.Prelude.{Some, None}
use Rattle.std.specs.declared.option.Option.{Option}
use Rattle.std.specs.Io.KnownBytes.{Appends}
use Rattle.std.specs.List.{AllByRecursion}
use Rattle.gui_edge.specs.Causes.{Rose}
use Rattle.gui_edge.specs.Sink.{SinkState, AppendsPrefix}
use Rattle.run_defs.specs.Language.{words_of}
use Rattle.run_defs.specs.Machine.{Machine}
use Rattle.run_defs.specs.Run.{Moment, first_moment, after}
use Rattle.run_defs.specs.Script.{max_line, lines_of, without_return, ended_says}
use Rattle.scene_script.specs.Cutting.{Cutting, HasTaken}
use Rattle.scene_script.specs.Questions.{asked_in, question_said}
use Rattle.scene_script.specs.declared.cutter.Cut.{Cut}
use Rattle.scene_script.specs.declared.cutter.Cut.TheVariants.{More, Line, Long}
use Rattle.scene_ask.specs.Asking.{answer_line, most_pending}
use Rattle.scene_host.specs.declared.asker.Asker.{Asker}

-- what is answered at a line of this number, where so many pixels are pending, by the words of a question, where it
-- asks one
abbrev pub reply_to : ℕ → Machine → ℕ → Option (List ℕ) → List ℕ
reply_to number machine pending None = []
reply_to number machine pending (Some words) = answer_line number machine pending (question_said (words_of words))

-- what is answered to a line that a newline ended
abbrev pub answer_to : Moment → ℕ → List ℕ → List ℕ
answer_to now pending line =
    if nat_lt max_line (length line) then []
    else reply_to now.number now.machine pending (asked_in (without_return line))

-- the answers to lines, each at the moment after the lines before it, and each with how many pixels are pending at it
abbrev pub answers_of : Moment → List ℕ → List (List ℕ) → List ℕ
answers_of now [] lines = []
answers_of now (pending ∷ pendings) [] = []
answers_of now (pending ∷ pendings) (line ∷ lines) =
    answer_to now pending line ++ answers_of (after now (ended_says line)) pendings lines

-- the answers to the questions in these bytes, in order. A question that no newline ends is none
abbrev pub answers_to : Machine → List ℕ → List ℕ → List ℕ
answers_to first pendings bytes = answers_of (first_moment first) pendings (lines_of bytes)

-- a number of pixels for each line in these bytes
pub record ArePending (first : Machine) (pendings bytes : List ℕ) : Type 0 where
  pub each : length pendings ≡ length (lines_of bytes)
  pub few : AllByRecursion (λ n. n ≤ most_pending first) pendings

-- what the line asks that a cutter's last answer made whole, if it made one
abbrev pub asks_by : Cut → Option (List ℕ) → Option (List ℕ)
asks_by More bytes = None
asks_by Line None = None
asks_by Line (Some bytes) = asked_in (without_return bytes)
asks_by Long bytes = None

abbrev pub cut_asks : Cutting → Option (List ℕ)
cut_asks c = asks_by c.answer c.bytes

-- A text was written, or where a write failed a prefix of it.
pub record IsAnswered (start now : SinkState) (answered : Bool) (text : List ℕ) : Type 0 where
  pub whole : answered ≡ true → Appends start.held now.held text
  pub part : answered ≡ false → AppendsPrefix start.held now.held text
  pub cause : answered ≡ false → Rose start.faults now.faults
  pub later : start.faults ≤ now.faults

-- the line that is read, what has the answers, and whether each of them was written
pub record Answering : Type 0 where
  pub cutter : Cutting
  pub answers : SinkState
  pub answered : Bool

abbrev pub answering : Asker → SinkState → Answering
answering asker answers = record { cutter = asker.cutter; answers = answers; answered = asker.answered }

-- A text was written. Once a write failed nothing is written.
pub record Adds (old new : Answering) (text : List ℕ) : Type 0 where
  pub adds : old.answered ≡ true → IsAnswered old.answers new.answers new.answered text
  pub stays : old.answered ≡ false → (new.answered ≡ false) × (new.answers ≡ old.answers)

-- These bytes were heard from the start on, and their questions answered.
pub record HasHeard (first : Machine) (start : SinkState) (now : Answering) (bytes : List ℕ) : Type 0 where
  pub line : HasTaken now.cutter bytes
  -- how many pixels were pending at each line
  pub pendings : List ℕ
  pub pending : ArePending first pendings bytes
  pub answered : IsAnswered start now.answers now.answered (answers_to first pendings bytes)
