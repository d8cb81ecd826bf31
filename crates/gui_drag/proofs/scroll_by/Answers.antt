use Rattle.std.proofs.Common.{◌≡◌, sym, pos, FitsSigned, w32, to_z, arith, rules}
use Rattle.std.proofs.lemmas.Int.{ints, to_z-of_z}
use Rattle.run_defs.specs.Dragging.{scroll_by, put_scroll}
use Rattle.gui_drag.proofs.scroll_by.Goals as goal

pub returns-then-down : goal.returns-then-down
unfolding scroll_by
returns-then-down c = λ log.
    let small = c.offset_of-offset.ensures.small in
    let step : FitsSigned w32 c.args.drag.step_y = search rules in
    let y : FitsSigned w32 c.stepped-y.result = search rules in
    let across : to_z w32 c.offset_of-offset.result.0 ≡ pos c.offset_of-offset.result.0 = omega (arith, ints) in
    let far = simp to_z-of_z at c.stepped-y.ensures in
    let done = c.put_scroll.ensures log in
    rw (c.if-down.true, sym c.offset_of-offset.ensures.value, sym c.reach_of-reach.ensures, sym far, sym across) (simp to_z-of_z at done)

pub returns-else-down : goal.returns-else-down
unfolding scroll_by
returns-else-down c = λ log.
    let small = c.offset_of-offset.ensures.small in
    let step : FitsSigned w32 c.args.drag.step_x = search rules in
    let x : FitsSigned w32 c.stepped-x.result = search rules in
    let down : to_z w32 c.offset_of-offset.result.1 ≡ pos c.offset_of-offset.result.1 = omega (arith, ints) in
    let far = simp to_z-of_z at c.stepped-x.ensures in
    let done = c.put_scroll-else-down.ensures log in
    rw (c.if-down.false, sym c.offset_of-offset.ensures.value, sym c.reach_of-reach.ensures, sym far, sym down) (simp to_z-of_z at done)
