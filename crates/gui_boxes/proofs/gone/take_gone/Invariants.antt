use Rattle.std.proofs.Common.{◌≡◌, ◌≤◌, ◌++◌, drop, vec_len, vec_capacity}
use Rattle.gui_boxes.specs.Listing.{those_in}
use Rattle.gui_boxes.proofs.Leaving.{KeepsLeft}
use Rattle.gui_boxes.proofs.gone.take_gone.Given as goal

abbrev pub invariant-loop-h : goal.invariant-loop-h
invariant-loop-h l =
    let f = l.tree.forest in
    let left = l.found.items ++ drop l.h-index l.listed in
    record {
      found : l.found.items ++ those_in f (drop l.h-index l.listed) ≡ those_in f l.listed;
      few : vec_len l.found ≤ l.h-index;
      capacity : vec_capacity l.found ≡ vec_capacity l.fn.found;
      entries : KeepsLeft f l.listed left l.fn.entries l.entries;
    }
