-- Why an edit of trees is refused, whatever room there is: the first of its tests that holds.
use Rattle.std.specs.Prelude.{ℕ, ◌+◌, Bool, not, ◌&&◌, ◌==◌, nat_lt, nat_le, if◌then◌else◌, List, [], ◌∷◌}
use Rattle.std.specs.Prelude.{Some, None, is_some, Result, Ok, Err}
use Rattle.std.specs.declared.option.Option.{Option}
use Rattle.gui_base.specs.declared.intervals.TheConstants.{MAX_DEPTH}
use Rattle.gui_base.specs.declared.refusal.Refusal.{Refusal}
use Rattle.gui_base.specs.declared.refusal.Refusal.TheVariants as refusal
use Rattle.gui_base.specs.Forest.{Forest, has, height, tree_at, parent_of, depth_of}

-- a reason that no room mends
pub data Reason : Type 0 where
  Unknown : Reason
  Taken : Reason
  Kind : Reason
  Place : Reason

-- the same reason among all refusals
abbrev pub refusal_of : Reason → Refusal
refusal_of Unknown = refusal.Unknown
refusal_of Taken = refusal.Taken
refusal_of Kind = refusal.Kind
refusal_of Place = refusal.Place

-- what is tested, and the reason where it holds
abbrev pub Test : Type 0
Test = Bool × Reason

-- the reason of the first test that holds; where none does, `later` tells
abbrev pub first_of : List Test → Option Refusal → Option Refusal
first_of [] later = later
first_of (test ∷ tests) later = if test.0 then Some (refusal_of test.1) else first_of tests later

-- Tests over a forest of handles.
abbrev pub absent : Forest ℕ → ℕ → Test
absent f h = (not (has f h), Unknown)

-- a handle that is to be new is there already
abbrev pub taken : Forest ℕ → ℕ → Test
taken f h = (has f h, Taken)

-- a root has no parent, and stays where it is
abbrev pub parentless : Forest ℕ → ℕ → Test
parentless f h = (not (is_some (parent_of f h)), Place)

-- the layers and the first screen stay
abbrev pub fixed : ℕ → Test
fixed h = (nat_le 1 h && nat_le h 3, Place)

-- nothing lies below the greatest depth
abbrev pub deepest : Forest ℕ → ℕ → Test
deepest f p = (depth_of f p == MAX_DEPTH, Place)

-- h with all below it would reach below the greatest depth if it went below p
abbrev pub too_deep : Forest ℕ → ℕ → ℕ → Test
too_deep f h p = (nat_lt MAX_DEPTH (depth_of f p + height (tree_at f h)), Place)

-- nothing goes below itself
abbrev pub inside : Forest ℕ → ℕ → ℕ → Test
inside f h p = (has (tree_at f h) p, Place)

-- The tests of each edit, in order: of a new root, a new child of p, a removal, a move among siblings, and a
-- new parent p.
abbrev pub root_tests : Forest ℕ → ℕ → List Test
root_tests f h = taken f h ∷ []

-- the tests of a new object h below p
abbrev pub child_tests : Forest ℕ → ℕ → ℕ → List Test
child_tests f h p = absent f p ∷ taken f h ∷ deepest f p ∷ []

-- the tests of a removal of h
abbrev pub removal_tests : Forest ℕ → ℕ → List Test
removal_tests f h = absent f h ∷ fixed h ∷ []

-- the tests of a move of h among its siblings
abbrev pub move_tests : Forest ℕ → ℕ → List Test
move_tests f h = absent f h ∷ parentless f h ∷ []

-- the tests of a new parent p for h
abbrev pub parent_tests : Forest ℕ → ℕ → ℕ → List Test
parent_tests f h p = absent f h ∷ absent f p ∷ parentless f h ∷ inside f h p ∷ too_deep f h p ∷ []

-- what a call answers: an error with the refusal, if there is one
abbrev pub result_of : Option Refusal → Result (Unit {0}) Refusal
result_of None = Ok tt
result_of (Some refusal) = Err refusal
