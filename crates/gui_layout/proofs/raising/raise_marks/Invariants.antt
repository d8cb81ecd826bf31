use Rattle.std.proofs.Common.{◌≡◌, ◌<◌, ℕ, true, false, drop}
use Rattle.gui_pool.specs.Table.{value_at}
use Rattle.gui_boxes.specs.Listing.{times}
use Rattle.gui_boxes.specs.Pending.{is_any, is_first, is_partly, is_pending}
use Rattle.gui_layout.specs.Raised.{Rests}
use Rattle.gui_boxes.specs.Tables.{listing_of}
use Rattle.gui_layout.proofs.raising.raise_marks.Given as goal

abbrev pub invariant-loop-h : goal.invariant-loop-h
invariant-loop-h l = record {
  own : (k : ℕ) → 0 < times l.marked k → times (drop l.h-index l.marked) k ≡ 0 → is_partly l.fn.pending k ≡ true → is_pending l.pending k ≡ false → Rests l.tree.forest l.entries k;
  more : (k : ℕ) → is_pending l.fn.pending k ≡ true → is_pending l.pending k ≡ true;
  still : (k : ℕ) → is_partly l.fn.pending k ≡ true → is_pending l.pending k ≡ false → is_partly l.pending k ≡ true;
  any : (k : ℕ) → is_any (value_at l.pending k) ≡ is_any (value_at l.fn.pending k);
  first : (k : ℕ) → is_first l.pending k ≡ is_first l.fn.pending k;
  listed : listing_of l.pending ≡ listing_of l.fn.pending;
}
