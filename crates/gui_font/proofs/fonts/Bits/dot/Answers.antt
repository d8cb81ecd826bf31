use Rattle.std.proofs.Common.{◌≡◌, true, ltb, arith}
use Rattle.std.proofs.lemmas.Bool.Decides.{nat_tests}
use Rattle.gui_font.proofs.fonts.Bits.dot.Goals as goal

pub returns : goal.returns
returns c =
    let column = c.in-Some.ensures in
    let row = c.in-Some-row_in.ensures in
    let left : ltb c.in-Some.column c.args.self.now.shape.w ≡ true = let h = column.1 in grind (arith, nat_tests) in
    let above : ltb c.in-Some-row_in.row c.args.self.now.shape.h ≡ true = let h = row.1 in grind (arith, nat_tests) in
    rw (column.0, row.0, left, above) c.is_set.ensures
