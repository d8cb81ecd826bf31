-- Animations: the value of one at a time since its start, and those that run.
use Rattle.std.specs.Prelude.{◌≡◌, ℕ, ◌+◌, ◌-◌, ◌*◌, ◌/◌, ◌%◌, ◌^◌, ◌==◌, ◌&&◌, Bool, true, false, not}
use Rattle.std.specs.Prelude.{nat_lt, nat_le, if◌then◌else◌, Some, None, ℤ, pos, ◌+ℤ◌, ◌-ℤ◌, ◌*ℤ◌}
use Rattle.std.specs.Prelude.{List, [], ◌∷◌, ◌++◌, filter}
use Rattle.std.specs.Int.{int_div_euclid}
use Rattle.std.specs.List.{list_any}
use Rattle.std.specs.Option.{ForSome}
use Rattle.std.specs.declared.option.Option.{Option}
use Rattle.gui_base.specs.Intervals.{is_counted, is_within}
use Rattle.gui_base.specs.declared.intervals.TheConstants.{COORDINATE, ANIM_TIME, TICK, REPEAT}
use Rattle.gui_base.specs.declared.events.Path.{Path}
use Rattle.gui_base.specs.declared.events.Path.TheVariants.{Linear, Step, EaseIn, EaseOut, EaseInOut}
use Rattle.gui_base.specs.declared.events.Var.{Var}
use Rattle.play_defs.specs.declared.Anim.{Anim}
use Rattle.play_defs.specs.declared.AnimSpec.{AnimSpec}
use Rattle.play_defs.specs.declared.AnimValue.{AnimValue}
use Rattle.play_defs.specs.declared.AnimValue.TheVariants.{Before, Now, Last}
use Rattle.play_defs.specs.declared.TheConstants.{WHOLE}
use Rattle.play_defs.specs.Same.{same_var}

-- whether an animation may begin or end there
abbrev pub IsEnd : ℤ → Type 0
IsEnd n = is_within COORDINATE n ≡ true

-- The numbers of an animation lie in their intervals.
pub record IsAnim (spec : AnimSpec) : Type 0 where
  pub start : IsEnd spec.start
  pub end : IsEnd spec.end
  pub time : is_counted ANIM_TIME spec.time ≡ true
  pub delay : is_counted TICK spec.delay ≡ true
  pub playback : is_counted TICK spec.playback ≡ true
  pub repeat : ForSome spec.repeat (λ n. is_counted REPEAT n ≡ true)

-- The value.

-- a cubic curve from 0 to the whole by the heights of its two middle points
abbrev pub curve : ℕ → ℕ → ℕ → ℕ
curve c1 c2 s =
    (3 * (WHOLE - s) * (WHOLE - s) * s * c1 + 3 * (WHOLE - s) * s * s * c2 + WHOLE * s * s * s) / 2 ^ 30

-- how much of the way lies behind after so much of the time
abbrev pub progress : Path → ℕ → ℕ
progress Linear s = s
progress Step s = 0
progress EaseIn s = curve 50 100 s
progress EaseOut s = curve 900 950 s
progress EaseInOut s = curve 50 952 s

-- the number so many parts on the way from one to the other, rounded down
abbrev pub between : ℤ → ℤ → ℕ → ℤ
between from to parts = from +ℤ int_div_euclid ((to -ℤ from) *ℤ pos parts) (pos WHOLE)

-- whether so many rounds are all of them
abbrev pub is_over : Option ℕ → ℕ → Bool
is_over None rounds = false
is_over (Some repeat) rounds = nat_le repeat rounds

-- where the last round ends
abbrev pub last_value : AnimSpec → ℤ
last_value spec = if nat_lt 0 spec.playback then spec.start else spec.end

-- the value so long after a round began: on the way there, or on the way back
unfoldable pub in_round : AnimSpec → ℕ → ℤ
in_round spec r =
    if nat_lt r spec.time then between spec.start spec.end (progress spec.path (WHOLE * r / spec.time))
    else between spec.end spec.start (progress spec.path (WHOLE * (r - spec.time) / spec.playback))

-- the value so long after the delay
abbrev pub after_delay : AnimSpec → ℕ → AnimValue
after_delay spec e =
    if is_over spec.repeat (e / (spec.time + spec.playback)) then Last (last_value spec)
    else Now (in_round spec (e % (spec.time + spec.playback)))

-- the value so long after the start
abbrev pub value_at : AnimSpec → ℕ → AnimValue
value_at spec elapsed = if nat_lt elapsed spec.delay then Before else after_delay spec (elapsed - spec.delay)

-- Those that run, in the order of starting.

-- whether an animation is for this variable of this object
abbrev pub moves : ℕ → Var → Anim → Bool
moves h var anim = (anim.spec.h.0 == h) && same_var anim.spec.var var

-- whether an animation runs for this variable of this object
abbrev pub is_moved : ℕ → Var → List Anim → Bool
is_moved h var anims = list_any (moves h var) anims

-- without the one for this variable of this object
abbrev pub stopped : ℕ → Var → List Anim → List Anim
stopped h var anims = filter (λ anim. not (moves h var anim)) anims

-- with one more, which comes last, in place of the one for the same
abbrev pub started : AnimSpec → ℕ → List Anim → List Anim
started spec now anims = stopped spec.h.0 spec.var anims ++ record { spec = spec; started = now } ∷ []

-- without those of an object
abbrev pub forgotten : ℕ → List Anim → List Anim
forgotten h anims = filter (λ anim. not (anim.spec.h.0 == h)) anims

-- whether a value is the last of its animation
abbrev pub is_last : AnimValue → Bool
is_last (Last n) = true
is_last value = false

-- whether what an animation gives at a time is its last value
abbrev pub has_ended : ℕ → Anim → Bool
has_ended now anim = is_last (value_at anim.spec (now - anim.started))

-- without those that have ended
abbrev pub lasting : ℕ → List Anim → List Anim
lasting now anims = filter (λ anim. not (has_ended now anim)) anims
