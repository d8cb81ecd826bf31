use Rattle.std.proofs.Common.{◌≡◌, ◌<◌, ℕ, true, false, drop}
use Rattle.std.specs.Prelude.{vec_capacity}
use Rattle.gui_base.specs.Forest.{has}
use Rattle.gui_boxes.specs.Listing.{times}
use Rattle.gui_boxes.specs.Pending.{is_first}
use Rattle.gui_boxes.specs.Tables.{listing_of, told}
use Rattle.gui_boxes.specs.Telling.{Tells}
use Rattle.gui_boxes.specs.Touched.{is_touched}
use Rattle.gui_layout.specs.Calm.{StandsOver, is_up}
use Rattle.gui_layout.proofs.telling.tell_marked.Given as goal

abbrev pub invariant-loop-h : goal.invariant-loop-h
invariant-loop-h l =
    let f = l.tree.forest in
    let now = told l.entries in
    record {
      tells : Tells f (is_first l.pending) (told l.fn.entries) now l.fn.moved.items l.moved.items;
      own : (k j : ℕ) → 0 < times l.marked k → times (drop l.h-index l.marked) k ≡ 0 → has f k ≡ true → is_up f j k ≡ true → is_touched now j ≡ false;
      within : (k : ℕ) → is_touched (told l.fn.entries) k ≡ true → is_touched now k ≡ false → StandsOver f l.marked k;
      capacity : vec_capacity l.moved ≡ vec_capacity l.fn.moved;
      listed : listing_of l.entries ≡ listing_of l.fn.entries;
    }
