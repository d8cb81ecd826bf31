use Rattle.std.proofs.Common.{◌≡◌, ◌<◌, ℕ, Bool, true, false, drop}
use Rattle.gui_base.specs.Forest.{has}
use Rattle.gui_boxes.specs.Layouts.{ButTouched}
use Rattle.gui_boxes.specs.Listing.{times}
use Rattle.gui_boxes.specs.Tables.{listing_of, told}
use Rattle.gui_boxes.specs.Touched.{is_touched}
use Rattle.gui_layout.specs.Calm.{IsClosedUp, StandsOver}
use Rattle.gui_layout.proofs.touching.touch_marked.Given as goal

abbrev pub invariant-loop-h : goal.invariant-loop-h
invariant-loop-h l =
    let f = l.tree.forest in
    let now = told l.entries in
    record {
      closed : (s : ℕ → Bool) → IsClosedUp f s (is_touched (told l.fn.entries)) → IsClosedUp f s (is_touched now);
      own : (k : ℕ) → 0 < times l.marked k → times (drop l.h-index l.marked) k ≡ 0 → has f k ≡ true → is_touched now k ≡ true;
      more : (k : ℕ) → is_touched (told l.fn.entries) k ≡ true → is_touched now k ≡ true;
      above : (k : ℕ) → is_touched (told l.fn.entries) k ≡ false → is_touched now k ≡ true → StandsOver f l.marked k;
      rest : ButTouched (told l.fn.entries) now;
      listed : listing_of l.entries ≡ listing_of l.fn.entries;
    }
