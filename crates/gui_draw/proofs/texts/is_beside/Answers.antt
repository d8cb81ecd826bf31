use Rattle.gui_draw.proofs.Common.{◌≡◌, refl, pos, ◌+ℤ◌, arith, ints, w64, to_z, of_z, lt_z, false}
use Rattle.gui_draw.proofs.texts.is_beside.Goals as goal

pub returns-else-from-start : goal.returns-else-from-start
returns-else-from-start c =
    let top : to_z w64 (of_z w64 c.args.start.y) ≡ c.args.start.y = omega (arith, ints) in
    let last : to_z w64 (of_z w64 c.from.result) ≡ c.args.part.y2 = omega (arith, ints, c.from.ensures) in
    let not_below : lt_z c.args.part.y2 c.args.start.y ≡ false = rw (last, top) at c.if-from-start.false in
    let bottom : to_z w64 (of_z w64 (to_z w64 (of_z w64 c.args.start.y) +ℤ to_z w64 (of_z w64 c.from-else-from-start.result))) ≡ c.args.start.y +ℤ pos c.args.height = omega (arith, ints, c.from-else-from-start.ensures) in
    let first : to_z w64 (of_z w64 c.from-else-from-start-2.result) ≡ c.args.part.y1 = omega (arith, ints, c.from-else-from-start-2.ensures) in
    rw (bottom, first, not_below) refl
