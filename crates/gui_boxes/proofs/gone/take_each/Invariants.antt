use Rattle.std.proofs.Common.{◌≡◌, ◌<◌, ℕ, true, false, drop, vec_capacity}
use Rattle.std.specs.Prelude.{is_some}
use Rattle.gui_base.specs.Forest.{has}
use Rattle.gui_pool.specs.Table.{value_at}
use Rattle.gui_boxes.specs.Gone.{HasLeft}
use Rattle.gui_boxes.specs.Listing.{HasThese, SameValue, times}
use Rattle.gui_boxes.proofs.gone.take_each.Given as goal

abbrev pub invariant-loop-h : goal.invariant-loop-h
invariant-loop-h l =
    let f = l.tree.forest in
    record {
      these : (objects : ℕ) → HasThese objects l.fn.entries l.fn.listed.items → HasThese objects l.entries l.listed.items;
      gone : (k : ℕ) → 0 < times l.marked k → times (drop l.h-index l.marked) k ≡ 0 → HasLeft f l.entries k;
      kept : (k : ℕ) → has f k ≡ true → SameValue k l.fn.entries l.entries;
      none : (k : ℕ) → is_some (value_at l.fn.entries k) ≡ false → is_some (value_at l.entries k) ≡ false;
      capacity : vec_capacity l.listed ≡ vec_capacity l.fn.listed;
    }
