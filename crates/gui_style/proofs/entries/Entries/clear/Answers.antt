use Rattle.std.proofs.Common.{◌<◌, length, sym, ap, ◌∙◌, length-set, arith}
use Rattle.gui_pool.specs.Lists.{list_of}
use Rattle.gui_style.proofs.Clearing.{twice, some_long}
use Rattle.gui_style.proofs.entries.Entries.clear.Goals as goal

pub loop-self-preserved : goal.loop-self-preserved
loop-self-preserved c =
    let t = c.loop-self.self in let o = c.args.owner in
    let long = some_long c.next.result c.of.result c.next.new.self (sym c.is_some.ensures ∙ c.loop-self-test.true) c.next.ensures in
    let there : 0 < length (list_of t o) = (let same = ap length c.of.ensures.value in omega arith) in
    record {
      others = rw c.remove.ensures (twice t o 0 c.loop-self.invariant.within there ∙ c.loop-self.invariant.others);
      within = rw c.remove.ensures (rw length-set c.loop-self.invariant.within);
    }
