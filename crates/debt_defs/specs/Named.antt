-- The object that a change names first.
use Rattle.std.specs.Prelude.{ℕ, Some, None}
use Rattle.std.specs.declared.option.Option.{Option}
use Rattle.scene_defs.specs.declared.Change.{Change}
use Rattle.debt_defs.specs.declared.subject.Subject.{Subject}
use Rattle.debt_defs.specs.declared.subject.Subject.TheVariants.{Own, Spread, Styled, Shared, Made, Comes}
use Rattle.debt_defs.specs.declared.subject.Subject.TheVariants.{Goes, Moves, Among, Loads, Nobody}
use Rattle.debt_defs.specs.Subject.{subject_of}

-- the handle that a subject names first, if it names one
abbrev pub names_first : Subject → Option ℕ
names_first (Own h) = Some h.0
names_first (Spread h) = Some h.0
names_first (Styled h reach) = Some h.0
names_first (Shared s prop) = None
names_first (Made n) = Some n.0
names_first (Comes n p) = Some n.0
names_first (Goes h) = Some h.0
names_first (Moves h p) = Some h.0
names_first (Among h) = Some h.0
names_first (Loads h) = Some h.0
names_first Nobody = None

-- Its handle, or none for a change of a shared style, a font or an image. What is made is named before its
-- parent.
abbrev pub named : Change → Option ℕ
named change = names_first (subject_of change)
