use Rattle.std.proofs.Common.{◌<◌, ◌^◌, arith}
use Rattle.gui_pool.proofs.Chained.{none_there, all_there, opened_kept}
use Rattle.gui_pool.proofs.chains.Chains.with_capacity.Goals as goal

pub invariant_of-result : goal.invariant_of-result
invariant_of-result c =
    let s = c.in_ok-lens.ensures in let l = c.in_ok-chunks.ensures in
    let few : c.args.n < 2 ^ 32 = omega arith in
    opened_kept c.in_ok-lens.lens c.in_ok-chunks.chunks c.args.n few s.vacant l.owners l.empty l.size

pub returns : goal.returns
returns c =
    let s = c.in_ok-lens.ensures in let l = c.in_ok-chunks.ensures in
    let few : c.args.n < 2 ^ 32 = omega arith in
    let lens = c.in_ok-lens.lens in let chunks = c.in_ok-chunks.chunks in
    record {
      empty = none_there lens chunks c.args.n few s.vacant l.owners l.empty l.size;
      spare = l.spare;
      slots = all_there lens chunks c.args.n few s.vacant l.owners l.empty l.size;
    }
