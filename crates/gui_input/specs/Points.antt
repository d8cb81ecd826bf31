-- Points that a pointer may read.
use Rattle.std.specs.Prelude.{ℤ, pos, negsuc, ◌≤ℤ◌}
use Rattle.play_defs.specs.declared.PointerReading.{PointerReading}
use Rattle.play_defs.specs.declared.Touch.{Touch}

-- a coordinate from -4000 to 4000
abbrev pub IsCoordinate : ℤ → Type 0
IsCoordinate n = (negsuc 3999 ≤ℤ n) × (n ≤ℤ pos 4000)

pub record IsPoint (reading : PointerReading) : Type 0 where
  pub x : IsCoordinate reading.x
  pub y : IsCoordinate reading.y

-- a press that began at such a point, and was read last at one
pub record IsTouch (touch : Touch) : Type 0 where
  pub from_x : IsCoordinate touch.from_x
  pub from_y : IsCoordinate touch.from_y
  pub last_x : IsCoordinate touch.last_x
  pub last_y : IsCoordinate touch.last_y
