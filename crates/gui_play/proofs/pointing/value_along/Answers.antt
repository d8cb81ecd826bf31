use Rattle.std.proofs.Common.{◌≡◌, ◌∙◌, sym, ◌<◌, ◌≤◌, arith, pos, ◌+ℤ◌, ◌-ℤ◌, FitsSigned, w32, to_z, of_z}
use Rattle.std.proofs.lemmas.Int.{ints, to_z-of_z}
use Rattle.gui_play.proofs.Columns.{along, along_first}
use Rattle.gui_play.proofs.Values.{ranged}
use Rattle.gui_play.proofs.pointing.value_along.Goals as goal
use Rattle.gui_play.proofs.pointing.value_along.Goals.{After-column}

pub overflow_sub-row : goal.overflow_sub-row
overflow_sub-row c =
    let r = ranged c.args.row.now c.requires.row in
    let low = r.lowest in let above = r.above in let high = r.highest in omega (arith, ints)

wide : (c : After-column) → c.args.row.now.max -ℤ c.args.row.now.min ≡ pos c.unsigned_abs-range.result
wide c =
    let r = ranged c.args.row.now c.requires.row in
    let low = r.lowest in let above = r.above in let high = r.highest in
    let is = c.unsigned_abs-range.ensures.value in omega (arith, ints)

pub share-above-requires-clause-range : goal.share-above-requires-clause-range
share-above-requires-clause-range c =
    let r = ranged c.args.row.now c.requires.row in
    let low = r.lowest in let above = r.above in let high = r.highest in
    let is = wide ((goal.at.share-above-requires-clause-range c).After-column) in omega (arith, ints)

pub overflow_add-result : goal.overflow_add-result
overflow_add-result c =
    let r = ranged c.args.row.now c.requires.row in
    let low = r.lowest in let above = r.above in let high = r.highest in
    let small = c.share-above.ensures.small in omega (arith, ints)

pub returns-then-count-le1 : goal.returns-then-count-le1
returns-then-count-le1 c =
    let r = ranged c.args.row.now c.requires.row in
    let low = r.lowest in let above = r.above in let high = r.highest in
    let one : c.args.count ≤ 1 = omega arith in
    let first : to_z w32 (of_z w32 c.args.row.now.min) ≡ c.args.row.now.min = omega (arith, ints) in
    first ∙ sym (along_first c.args.row.now c.args.first c.args.count c.args.x one)

pub returns : goal.returns
returns c =
    let r = ranged c.args.row.now c.requires.row in
    let low = r.lowest in let above = r.above in let high = r.highest in
    let small = c.share-above.ensures.small in
    let some : 1 < c.args.count = omega arith in
    let x : FitsSigned w32 c.args.x = c.ranges.x in
    let first : FitsSigned w32 c.args.first = c.ranges.first in
    let at = c.column.ensures.value in
    let sum : to_z w32 (of_z w32 (to_z w32 (of_z w32 c.args.row.now.min) +ℤ to_z w32 c.share-above.result)) ≡ c.args.row.now.min +ℤ pos c.share-above.result = omega (arith, ints) in
    sum ∙ sym (along c.args.row.now c.args.first c.args.count c.args.x c.unsigned_abs-range.result c.column.result c.share-above.result some (wide ((goal.at.returns c).After-column)) (simp to_z-of_z at at) c.share-above.ensures.value)
