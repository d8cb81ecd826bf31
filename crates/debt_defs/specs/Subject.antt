-- What a change is about. What else is asked of a change goes by that: the object that it names first, whom it
-- concerns, and what it does to the trees.
use Rattle.std.specs.Prelude.{Some, None}
use Rattle.std.specs.declared.option.Option.{Option}
use Rattle.gui_base.specs.declared.Handle.{Handle}
use Rattle.scene_defs.specs.declared.Change.{Change}
use Rattle.scene_defs.specs.declared.Change.TheVariants as change
use Rattle.debt_defs.specs.declared.subject.Reach.TheVariants.{OfProp, OfStyle}
use Rattle.debt_defs.specs.declared.subject.Subject.{Subject}
use Rattle.debt_defs.specs.declared.subject.Subject.TheVariants.{Own, Spread, Styled, Shared, Made, Comes}
use Rattle.debt_defs.specs.declared.subject.Subject.TheVariants.{Goes, Moves, Among, Loads, Nobody}
use Rattle.scene_defs.specs.Deeds.{row_set}

-- a change of this row, or of none
abbrev pub of_row : Option Handle → Subject
of_row None = Nobody
of_row (Some h) = Own h

-- A setter is about its object alone, but for a state. A change of fonts or images is about no object, and
-- neither is a new style, which nobody uses yet.
abbrev pub subject_of : Change → Subject
subject_of (change.Screen n) = Made n
subject_of (change.New n p kind) = Comes n p
subject_of (change.Delete h) = Goes h
subject_of (change.Parent h p) = Moves h p
subject_of (change.Index h n) = Among h
subject_of (change.Front h) = Among h
subject_of (change.Back h) = Among h
subject_of (change.Load h) = Loads h
subject_of (change.State h state on) = Spread h
subject_of (change.Text h text) = Own h
subject_of (change.Set s prop value) = Shared s prop
subject_of (change.Unset s prop) = Shared s prop
subject_of (change.Use h s selector) = Styled h (OfStyle s)
subject_of (change.Unuse h s selector) = Styled h (OfStyle s)
subject_of (change.Local h selector prop value) = Styled h (OfProp prop)
subject_of (change.Unlocal h selector prop) = Styled h (OfProp prop)
subject_of change = of_row (row_set change)
