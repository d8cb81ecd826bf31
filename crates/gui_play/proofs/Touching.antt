-- A touch against which there is no refusal reads a point in range.
use Rattle.std.proofs.Common.{◌≡◌, refl, true, inl, inr, ℤ, pos, None, arith}
use Rattle.std.proofs.lemmas.Bool.{and_parts, cases_Bool}
use Rattle.std.proofs.lemmas.Bool.Decides.{nat_tests}
use Rattle.std.proofs.lemmas.Int.{ints}
use Rattle.gui_base.specs.Intervals.{is_within}
use Rattle.gui_base.specs.declared.intervals.TheConstants.{COORDINATE}
use Rattle.gui_input.specs.Points.{IsCoordinate, IsPoint}
use Rattle.run_defs.specs.declared.Command.TheVariants as ask
use Rattle.run_defs.specs.Machine.{Machine}
use Rattle.run_defs.specs.Step.{answer, down_at, is_command_in_range, lifted}

coordinate : (n : ℤ) → is_within COORDINATE n ≡ true → IsCoordinate n
coordinate n e = (grind (arith, ints, nat_tests, e), grind (arith, ints, nat_tests, e))

-- a command without a refusal is in range
in_range : (machine : Machine) (x y : ℤ) → answer machine (ask.Touch x y) ≡ None → is_command_in_range (ask.Touch x y) ≡ true
in_range machine x y none = elim (cases_Bool (is_command_in_range (ask.Touch x y))) [
  | inl is ↦ is
  | inr isnt ↦ cc (rw isnt at none)
]

pub touched_point : (machine : Machine) (x y : ℤ) → answer machine (ask.Touch x y) ≡ None → IsPoint (down_at x y)
touched_point machine x y none =
    let both = and_parts (is_within COORDINATE x) (is_within COORDINATE y) (in_range machine x y none) in
    record { x = coordinate x both.0; y = coordinate y both.1 }

-- so does a pointer that is up
pub lifted_point : IsPoint lifted
lifted_point = record { x = coordinate (pos 0) refl; y = coordinate (pos 0) refl }
