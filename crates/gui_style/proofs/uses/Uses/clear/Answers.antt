use Rattle.std.proofs.Common.{◌<◌, length, sym, ap, ◌∙◌, length-set, arith}
use Rattle.gui_pool.specs.Lists.{list_of}
use Rattle.gui_style.proofs.Clearing.{twice, some_long}
use Rattle.gui_style.proofs.uses.Uses.clear.Goals as goal

pub loop-h-preserved : goal.loop-h-preserved
loop-h-preserved c =
    let t = c.loop-h.self in let o = c.args.h.0 in
    let long = some_long c.next.result c.of.result c.next.new.self (sym c.is_some.ensures ∙ c.loop-h-test.true) c.next.ensures in
    let there : 0 < length (list_of t o) = (let same = ap length c.of.ensures.value in omega arith) in
    record {
      others = rw c.remove.ensures (twice t o 0 c.loop-h.invariant.within there ∙ c.loop-h.invariant.others);
      within = rw c.remove.ensures (rw length-set c.loop-h.invariant.within);
    }
