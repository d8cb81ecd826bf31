-- Sessions that were worked out by hand.
use Rattle.std.specs.Prelude.{◌≡◌, ℕ, true, false, List, [], ◌∷◌, ◌++◌, codes, Some, None}
use Rattle.std.specs.declared.option.Option.{Option}
use Rattle.gui_base.specs.Limits.{with_sizes}
use Rattle.run_defs.specs.Machine.{Machine, first_machine}
use Rattle.session_defs.specs.Sessions.{Outcome, outcome, output_of, log_of, stop, Stop, Finished, Faulty}
use Rattle.session_defs.specs.Sessions.{version, offer, chosen, turned_down, screen}
use Rattle.session_defs.specs.Formats.{own}
use Rattle.session_defs.specs.Reader.{screen_read}
use Rattle.session_defs.specs.Runs.{screen_after, machine_in, parts_in}
use Rattle.session_defs.specs.declared.RfbBad.TheVariants as bad

abbrev two_by_one : Machine
two_by_one = first_machine (with_sizes 2 1 1)

-- an outcome of this run on a panel of two pixels, and how it ends
abbrev run : List ℕ → Outcome
run bytes = outcome 0 two_by_one true bytes

abbrev end : List ℕ → Option Stop
end bytes = stop two_by_one true bytes (run bytes)

abbrev greeting : List ℕ
greeting = codes "rfb\n" ++ version ++ 1 ∷ 1 ∷ []

abbrev greeted : List ℕ
greeted = version ++ offer ++ chosen ++ screen (with_sizes 2 1 1)

-- the whole panel is asked for, or its changes
abbrev whole : List ℕ
whole = 3 ∷ 0 ∷ 0 ∷ 0 ∷ 0 ∷ 0 ∷ 0 ∷ 2 ∷ 0 ∷ 1 ∷ []

abbrev changes : List ℕ
changes = 3 ∷ 1 ∷ 0 ∷ 0 ∷ 0 ∷ 0 ∷ 0 ∷ 2 ∷ 0 ∷ 1 ∷ []

-- the answer: the whole panel in white
abbrev two_pixels : List ℕ
two_pixels =
    0 ∷ 0 ∷ 0 ∷ 1 ∷ 0 ∷ 0 ∷ 0 ∷ 0 ∷ 0 ∷ 2 ∷ 0 ∷ 1 ∷ 0 ∷ 0 ∷ 0 ∷ 0 ∷ 255 ∷ 255 ∷ 255 ∷ 255 ∷ []

abbrev other_version : List ℕ
other_version = codes "rfb\nRFB 003.003\n"

-- a button over the whole panel tells that it is pressed
abbrev button : List ℕ
button = codes "new 10 3 button\nsize 10 2 1\non 10 pressed say\nframe\npump\n" ++ greeting

abbrev press : List ℕ
press = 5 ∷ 1 ∷ 0 ∷ 0 ∷ 0 ∷ 0 ∷ []

-- what was asked for is sent, and once more when the button is pressed, in another colour
abbrev two_blues : List ℕ
two_blues =
    0 ∷ 0 ∷ 0 ∷ 1 ∷ 0 ∷ 0 ∷ 0 ∷ 0 ∷ 0 ∷ 2 ∷ 0 ∷ 1 ∷ 0 ∷ 0 ∷ 0 ∷ 0 ∷ 190 ∷ 36 ∷ 190 ∷ 36 ∷
    0 ∷ 0 ∷ 0 ∷ 1 ∷ 0 ∷ 0 ∷ 0 ∷ 0 ∷ 0 ∷ 2 ∷ 0 ∷ 1 ∷ 0 ∷ 0 ∷ 0 ∷ 0 ∷ 186 ∷ 27 ∷ 186 ∷ 27 ∷ []

-- pixels of eight bits are wanted: three for red, three for green above them, and two for blue
abbrev eight_bits : List ℕ
eight_bits = 0 ∷ 0 ∷ 0 ∷ 0 ∷ 8 ∷ 8 ∷ 0 ∷ 1 ∷ 0 ∷ 7 ∷ 0 ∷ 7 ∷ 0 ∷ 3 ∷ 0 ∷ 3 ∷ 6 ∷ 0 ∷ 0 ∷ 0 ∷ []

-- what is on the screen of a viewer that said all of these bytes
abbrev screen_of : List ℕ → Option (List (Option ℕ))
screen_of bytes = screen_after 0 (machine_in two_by_one true bytes) (parts_in true bytes)

-- and of one that got these, with one update in the server's own format
abbrev got : List ℕ → Option (List (Option ℕ))
got bytes = screen_read (own ∷ []) (greeted ++ bytes)

-- the same update with two areas announced, and with pixels that are not raw
abbrev two_areas : List ℕ
two_areas =
    0 ∷ 0 ∷ 0 ∷ 2 ∷ 0 ∷ 0 ∷ 0 ∷ 0 ∷ 0 ∷ 2 ∷ 0 ∷ 1 ∷ 0 ∷ 0 ∷ 0 ∷ 0 ∷ 255 ∷ 255 ∷ 255 ∷ 255 ∷ []

abbrev not_raw : List ℕ
not_raw =
    0 ∷ 0 ∷ 0 ∷ 1 ∷ 0 ∷ 0 ∷ 0 ∷ 0 ∷ 0 ∷ 2 ∷ 0 ∷ 1 ∷ 0 ∷ 0 ∷ 0 ∷ 1 ∷ 255 ∷ 255 ∷ 255 ∷ 255 ∷ []

pub record SessionsAreWorked : Type 0 where
  pub whole_output : output_of (run (greeting ++ whole)) ≡ greeted ++ two_pixels
  pub whole_log : log_of two_by_one (run (greeting ++ whole)) ≡ []
  pub whole_end : end (greeting ++ whole) ≡ Some (Finished false)
  -- nothing changed since
  pub changes_output : output_of (run (greeting ++ whole ++ changes)) ≡ greeted ++ two_pixels
  pub changes_end : end (greeting ++ whole ++ changes) ≡ Some (Finished false)
  pub version_output : output_of (run other_version) ≡ version
  pub version_end : end other_version ≡ Some (Faulty bad.Version)
  -- the line `rfb` that the end of the bytes ends, that has a carriage return before its newline, and what is no
  -- such line
  pub open_output : output_of (run (codes "rfb")) ≡ version
  pub open_end : end (codes "rfb") ≡ Some (Faulty bad.Cut)
  pub return_output : output_of (run (codes "rfb" ++ 13 ∷ 10 ∷ [])) ≡ version
  pub lone_return_end : end (codes "rfb" ++ 13 ∷ []) ≡ Some (Faulty bad.NoSession)
  pub spaces_end : end (codes " rfb\n") ≡ Some (Faulty bad.NoSession)
  -- another security than the one that is offered
  pub security_output : output_of (run (codes "rfb\n" ++ version ++ 2 ∷ [])) ≡ version ++ offer ++ turned_down
  pub security_end : end (codes "rfb\n" ++ version ++ 2 ∷ []) ≡ Some (Faulty bad.Security)
  -- a request that waits is answered by the press
  pub pressed_output : output_of (run (button ++ changes ++ changes ++ press)) ≡ greeted ++ two_blues
  pub pressed_log : log_of two_by_one (run (button ++ changes ++ changes ++ press))
      ≡ codes "1 ok\n2 ok\n3 ok\n4 refused syntax\n5 refused syntax\nevent pressed 10 10\n"
  pub pressed_end : end (button ++ changes ++ changes ++ press) ≡ Some (Finished true)
  -- what a viewer reads: white, in the server's own format and then in eight bits
  pub white_read : screen_of (greeting ++ whole) ≡ Some (Some 65535 ∷ Some 65535 ∷ [])
  pub eight_read : screen_of (greeting ++ whole ++ eight_bits ++ whole) ≡ Some (Some 255 ∷ Some 255 ∷ [])
  -- the later of two updates
  pub pressed_read : screen_of (button ++ changes ++ changes ++ press) ≡ Some (Some 7098 ∷ Some 7098 ∷ [])
  -- what cannot be read: a byte too many, two areas where one follows, and pixels that are not raw
  pub two_pixels_read : got two_pixels ≡ Some (Some 65535 ∷ Some 65535 ∷ [])
  pub further_read : got (two_pixels ++ 0 ∷ []) ≡ None
  pub areas_read : got two_areas ≡ None
  pub raw_read : got not_raw ≡ None
