-- Bounds on a curve of four points.
use Rattle.std.proofs.Common.{◌≡◌, ℕ, ◌+◌, ◌-◌, ◌*◌, ◌≤◌, arith, ap}
use Rattle.std.proofs.lemmas.Nat.{mul-le}
use Rattle.gui_base.specs.declared.events.Path.{Path}
use Rattle.gui_base.specs.declared.events.Path.TheVariants.{Linear, Step, EaseIn, EaseOut, EaseInOut}
use Rattle.play_defs.specs.Animation.{curve, progress}

-- the middle terms of the cube of a sum that is the whole
pub below_cube : (t s c1 c2 : ℕ) → t + s ≡ 1024 → c1 ≤ 1024 → c2 ≤ 1024 → 3 * t * t * s * c1 + 3 * t * s * s * c2 + 1024 * s * s * s ≤ 1024 * 1024 * 1024 * 1024
below_cube t s c1 c2 e h k =
    let first : (3 * t * t * s) * c1 ≤ (3 * t * t * s) * 1024 = mul-le (3 * t * t * s) c1 (3 * t * t * s) 1024 (omega arith) h in
    let second : (3 * t * s * s) * c2 ≤ (3 * t * s * s) * 1024 = mul-le (3 * t * s * s) c2 (3 * t * s * s) 1024 (omega arith) k in
    let cube : (t + s) * (t + s) * (t + s) ≡ 1024 * 1024 * 1024 = ap (λ (n : ℕ). n * n * n) e in
    omega arith

curve_within : (c1 c2 s : ℕ) → c1 ≤ 1024 → c2 ≤ 1024 → s ≤ 1024 → curve c1 c2 s ≤ 1024
curve_within c1 c2 s h k l = omega (arith, below_cube (1024 - s) s c1 c2 (omega arith) h k)

-- no path goes past its end
pub progress_within : (path : Path) (s : ℕ) → s ≤ 1024 → progress path s ≤ 1024
progress_within Linear s l = l
progress_within Step s l = omega arith
progress_within EaseIn s l = curve_within 50 100 s (omega arith) (omega arith) l
progress_within EaseOut s l = curve_within 900 950 s (omega arith) (omega arith) l
progress_within EaseInOut s l = curve_within 50 952 s (omega arith) (omega arith) l
