use Rattle.std.proofs.Common.{◌≡◌, ◌+◌, ◌*◌, ◌≤◌, ℕ, arith}
use Rattle.std.proofs.lemmas.Nat.{mul-le}
use Rattle.gui_base.specs.Color.{red, green, blue, parts}
use Rattle.gui_color.proofs.Mixes.{mix_high}
use Rattle.gui_color.proofs.mixing.Veil.over.Goals as goal

-- no channel of two colours mixed is above its bits
five : (a b p q : ℕ) → a ≤ 31 → b ≤ 31 → p + q ≡ 32 → a * p + b * q ≤ 992
five a b p q h k all = omega (arith, mul-le a p 31 p h (omega arith), mul-le b q 31 q k (omega arith))

six : (a b p q : ℕ) → a ≤ 63 → b ≤ 63 → p + q ≡ 32 → a * p + b * q ≤ 2016
six a b p q h k all = omega (arith, mul-le a p 63 p h (omega arith), mul-le b q 63 q k (omega arith))

pub overflow_mul-red : goal.overflow_mul-red
overflow_mul-red c = omega (arith, mul-le c.red_of.result c.args.self.red_parts_left 31 2048 (omega arith) (omega arith))

pub overflow_mul-green-2 : goal.overflow_mul-green-2
overflow_mul-green-2 c = omega (arith, mul-le (c.green_of.result * 32) c.args.self.parts_left 2016 32 (omega arith) (omega arith))

pub overflow_mul-blue : goal.overflow_mul-blue
overflow_mul-blue c = omega (arith, mul-le c.blue_of.result c.args.self.parts_left 31 32 (omega arith) (omega arith))

pub overflow_add-red : goal.overflow_add-red
overflow_add-red c =
    rw (c.args.self.red_parts_are, c.args.self.red_is) (omega (arith, five c.red_of.result (red c.args.self.fg) c.args.self.parts_left (parts c.args.self.opa) (omega arith) (omega arith) c.args.self.all_parts))

pub overflow_add-green : goal.overflow_add-green
overflow_add-green c =
    rw c.args.self.green_is (omega (arith, six c.green_of.result (green c.args.self.fg) c.args.self.parts_left (parts c.args.self.opa) (omega arith) (omega arith) c.args.self.all_parts))

pub overflow_add-blue : goal.overflow_add-blue
overflow_add-blue c =
    rw c.args.self.blue_is (omega (arith, five c.blue_of.result (blue c.args.self.fg) c.args.self.parts_left (parts c.args.self.opa) (omega arith) (omega arith) c.args.self.all_parts))

pub overflow_add-result-2 : goal.overflow_add-result-2
overflow_add-result-2 c =
    rw (c.args.self.red_parts_are, c.args.self.red_is, c.args.self.green_is, c.args.self.blue_is)
    (omega (
      arith,
      five c.red_of.result (red c.args.self.fg) c.args.self.parts_left (parts c.args.self.opa) (omega arith) (omega arith) c.args.self.all_parts,
      six c.green_of.result (green c.args.self.fg) c.args.self.parts_left (parts c.args.self.opa) (omega arith) (omega arith) c.args.self.all_parts,
      five c.blue_of.result (blue c.args.self.fg) c.args.self.parts_left (parts c.args.self.opa) (omega arith) (omega arith) c.args.self.all_parts,
    ))

pub overflow_add-result : goal.overflow_add-result
overflow_add-result c =
    rw (c.args.self.green_is, c.args.self.blue_is)
    (omega (
      arith,
      six c.green_of.result (green c.args.self.fg) c.args.self.parts_left (parts c.args.self.opa) (omega arith) (omega arith) c.args.self.all_parts,
      five c.blue_of.result (blue c.args.self.fg) c.args.self.parts_left (parts c.args.self.opa) (omega arith) (omega arith) c.args.self.all_parts,
    ))

pub returns : goal.returns
returns c =
    let veil = c.args.self in
    rw (c.red_of.ensures, c.green_of.ensures, c.blue_of.ensures)
    (mix_high veil.fg c.args.bg veil.opa veil.parts_left veil.red_parts_left veil.red_share veil.green_share veil.blue_share veil.all_parts veil.red_parts_are veil.red_is veil.green_is veil.blue_is)
