use Rattle.gui_draw.proofs.Common.{◌≡◌, refl, arith, ints, w64, to_z, of_z, le_z, true, pos, ◌+ℤ◌, ◌-ℤ◌}
use Rattle.gui_draw.proofs.stamps.has_columns.Goals as goal

pub returns-then-from-left : goal.returns-then-from-left
returns-then-from-left c =
    let from : to_z w64 (of_z w64 c.args.left) ≡ c.args.left = omega (arith, ints) in
    let low : to_z w64 (of_z w64 c.from.result) ≡ c.args.part.x1 = omega (arith, ints, c.from.ensures) in
    let high : to_z w64 (of_z w64 c.from-then-from-left.result) ≡ c.args.part.x2 = omega (arith, ints, c.from-then-from-left.ensures) in
    let not_before : le_z c.args.part.x1 c.args.left ≡ true = rw (low, from) at c.if-from-left.true in
    let last : to_z w64 (of_z w64 c.end_of.result) ≡ (c.args.left +ℤ pos 5) -ℤ pos 1 = omega (arith, ints, c.end_of.ensures) in
    rw (last, high, not_before) refl
