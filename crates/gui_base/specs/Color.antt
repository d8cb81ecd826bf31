-- The channels of a colour of sixteen bits, and how one colour is mixed over another.
use Rattle.std.specs.Prelude.{ℕ, ◌+◌, ◌*◌, ◌/◌, ◌%◌, pos, ◌+ℤ◌, ◌-ℤ◌, ◌*ℤ◌}
use Rattle.std.specs.Int.{int_div_euclid}
use Rattle.std.specs.Int.RustNames.{unsigned_abs}
use Rattle.gui_base.specs.declared.color.Rgb565.{Rgb565}

-- red in bits 15 to 11
abbrev pub red : Rgb565 → ℕ
red c = c.0 / 2048

-- green in bits 10 to 5
abbrev pub green : Rgb565 → ℕ
green c = c.0 / 32 % 64

-- blue in bits 4 to 0
abbrev pub blue : Rgb565 → ℕ
blue c = c.0 % 32

-- the colour of these channels, of five, six and five bits
abbrev pub color : ℕ → ℕ → ℕ → Rgb565
color r g b = record { 0 = r * 2048 + g * 32 + b }

-- the colour with all channels at 0; white has all at their highest
abbrev pub black : Rgb565
black = record { 0 = 0 }

abbrev pub white : Rgb565
white = record { 0 = 65535 }

-- a channel of five bits, brought to eight bits
abbrev pub from_five : ℕ → ℕ
from_five n = n * 8 + n / 4

-- a channel of six bits, brought to eight bits
abbrev pub from_six : ℕ → ℕ
from_six n = n * 4 + n / 16

-- how many thirty-seconds of the upper colour an opacity takes
abbrev pub parts : ℕ → ℕ
parts opa = (opa + 4) / 8

-- a channel of `fg` over one of `bg`: bg + floor((fg - bg) * m / 32)
unfoldable pub mix_channel : ℕ → ℕ → ℕ → ℕ
mix_channel fg bg m = unsigned_abs (pos bg +ℤ int_div_euclid ((pos fg -ℤ pos bg) *ℤ pos m) (pos 32))

-- a colour over another with an opacity from 0 to 255
unfoldable pub mix : Rgb565 → Rgb565 → ℕ → Rgb565
mix fg bg opa =
    color (mix_channel (red fg) (red bg) (parts opa)) (mix_channel (green fg) (green bg) (parts opa))
    (mix_channel (blue fg) (blue bg) (parts opa))
