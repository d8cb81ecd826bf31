-- Questions of a host. A question is a comment that begins with `#?`, and so a line that does nothing.
use Rattle.std.specs.Prelude.{◌≡◌, ℕ, ◌≤◌, Bool, ◌==◌, ◌&&◌, if◌then◌else◌, List, [], ◌∷◌, length, Some, None, Ok, Err}
use Rattle.std.specs.Prelude.{bytes_eq, find, option_map}
use Rattle.std.specs.declared.option.Option.{Option}
use Rattle.gui_base.specs.declared.intervals.TheConstants.{GROUP}
use Rattle.gui_base.specs.declared.limits.Pool.{Pool}
use Rattle.gui_base.specs.declared.pools.TheConstants.{POOLS}
use Rattle.gui_base.specs.declared.words.Part.{Part}
use Rattle.gui_base.specs.declared.words.Part.TheVariants.{Main}
use Rattle.gui_base.specs.declared.words.TheConstants.{PARTS}
use Rattle.gui_base.specs.Names.{table, named}
use Rattle.gui_base.specs.Pools.{pool_name}
use Rattle.run_defs.specs.Commands.{handle, coordinate, property}
use Rattle.run_defs.specs.Fields.{Field, Progress, Made, count_in, name_in, fields, ◌▹◌, or_syntax, start, ended}
use Rattle.run_defs.specs.Language.{Word, Reading}
use Rattle.run_defs.specs.Script.{max_line, parse}
use Rattle.run_defs.specs.declared.Line.TheVariants.{Blank}
use Rattle.scene_script.specs.declared.questions.Question.{Question}
use Rattle.scene_script.specs.declared.questions.Question.TheVariants as ask
use Rattle.scene_script.specs.declared.questions.QuestionName.{QuestionName}
use Rattle.scene_script.specs.declared.questions.QuestionName.TheVariants as name
use Rattle.scene_script.specs.declared.questions.TheConstants.{QUESTIONS}

-- the bytes behind the `#?` that a question begins with
abbrev pub asked_in : List ℕ → Option (List ℕ)
asked_in [] = None
asked_in (a ∷ []) = None
asked_in (a ∷ b ∷ words) = if a == 35 && b == 63 then Some words else None

-- a part of an object, by its name
abbrev pub part : Field Part
part = name_in (table {A = Part} PARTS) Main

-- the pool that has this name
abbrev pub pool_named : Word → Option Pool
pool_named word = find (λ pool. bytes_eq word (pool_name pool)) POOLS

-- Which pool is asked for: the one of this name. Where no word is left they all are, since the empty word stands for none.
abbrev pub pools_said : Word → Reading (Option Pool)
pools_said [] = Ok None
pools_said (byte ∷ bytes) = or_syntax (option_map Some (pool_named (byte ∷ bytes)))

-- the pool that is asked for, or none for all
abbrev pub pools : Field (Option Pool)
pools = record { says = pools_said; stand_in = None }

-- the questions, each by its fields in their order
abbrev pub question_fields : QuestionName → Progress → Made Question
question_fields (name.Of fact) at = fields (ask.Of fact) at ▹ handle
question_fields name.Property at = fields ask.Property at ▹ handle ▹ part ▹ property
question_fields name.Children at = fields ask.Children at ▹ handle
question_fields name.Active at = fields ask.Active at
question_fields name.Hit at = fields ask.Hit at ▹ coordinate ▹ coordinate
question_fields name.Focused at = fields ask.Focused at ▹ count_in GROUP
question_fields name.Time at = fields ask.Time at
question_fields name.Used at = fields ask.Used at ▹ pools
question_fields name.Pending at = fields ask.Pending at

-- what is said, where nothing is at fault
abbrev pub said_or_none : {A : Type 0} → Reading A → Option A
said_or_none (Ok a) = Some a
said_or_none (Err fault) = None

-- the question of a name with these words after it, if they are its fields
abbrev pub question_by : Option QuestionName → List Word → Option Question
question_by None words = None
question_by (Some name) words = said_or_none (ended (question_fields name (start words)))

-- the question that these words ask, if they ask one
unfoldable pub question_said : List Word → Option Question
question_said [] = None
question_said (name ∷ words) = question_by (named (table {A = QuestionName} QUESTIONS) name) words

-- a line that asks is a comment
abbrev pub QuestionsSayNothing : Type 0
QuestionsSayNothing =
    (line words : List ℕ) → length line ≤ max_line → asked_in line ≡ Some words → parse line ≡ Ok Blank
