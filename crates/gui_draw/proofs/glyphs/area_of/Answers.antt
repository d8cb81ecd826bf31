use Rattle.gui_draw.proofs.Common.{◌≡◌, refl, arith, ints, w32, w64, to_z, of_z}
use Rattle.gui_draw.proofs.glyphs.area_of.Goals as goal

pub returns : goal.returns
returns c =
    let left : to_z w32 (of_z w32 (to_z w64 (of_z w64 c.args.columns.from))) ≡ c.args.columns.from = omega (arith, ints) in
    let top : to_z w32 (of_z w32 (to_z w64 (of_z w64 c.args.lines.from))) ≡ c.args.lines.from = omega (arith, ints) in
    let right : to_z w32 (of_z w32 (to_z w64 (of_z w64 c.args.columns.to))) ≡ c.args.columns.to = omega (arith, ints) in
    let bottom : to_z w32 (of_z w32 (to_z w64 (of_z w64 c.args.lines.to))) ≡ c.args.lines.to = omega (arith, ints) in
    rw (left, top, right, bottom) refl
