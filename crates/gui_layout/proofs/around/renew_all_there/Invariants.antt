use Rattle.std.proofs.Common.{◌≡◌, ◌<◌, ℕ, true, false, drop}
use Rattle.std.specs.Prelude.{IfSome}
use Rattle.gui_base.specs.Forest.{has}
use Rattle.gui_boxes.specs.Around.{IsFlat, ReadsReaches}
use Rattle.gui_boxes.specs.Listing.{times}
use Rattle.gui_boxes.specs.Scrolls.{scrolled_at}
use Rattle.gui_boxes.specs.Tables.{listing_of, told}
use Rattle.gui_boxes.specs.Views.{box_at}
use Rattle.gui_layout.proofs.around.renew_all_there.Given as goal

abbrev pub invariant-loop-h : goal.invariant-loop-h
invariant-loop-h l =
    let f = l.tree.forest in
    record {
      own : (k : ℕ) → 0 < times l.marked k → times (drop l.h-index l.marked) k ≡ 0 → has f k ≡ true → (box_at (told l.fn.entries).boxes k).scrollable ≡ false → IsFlat f (told l.entries) k;
      reads : ReadsReaches f (told l.fn.entries) (told l.entries);
      others : (k : ℕ) → times l.marked k ≡ 0 → scrolled_at (told l.entries).scrolls k ≡ scrolled_at (told l.fn.entries).scrolls k;
      last : IfSome l.last (λ p. (box_at (told l.fn.entries).boxes p.0).scrollable ≡ false → IsFlat f (told l.entries) p.0);
      listed : listing_of l.entries ≡ listing_of l.fn.entries;
    }
