use Rattle.std.proofs.Common.{◌≡◌, ◌<◌, ℕ, Some, false, drop}
use Rattle.std.specs.Prelude.{IfSome}
use Rattle.gui_base.specs.Forest.{parent_of}
use Rattle.gui_boxes.specs.Around.{IsFlat, ReadsReaches}
use Rattle.gui_boxes.specs.Listing.{times}
use Rattle.gui_boxes.specs.Scrolls.{scrolled_at}
use Rattle.gui_boxes.specs.Tables.{listing_of, told}
use Rattle.gui_layout.specs.Tops.{is_over}
use Rattle.gui_boxes.specs.Views.{box_at}
use Rattle.gui_layout.proofs.around.renew_parents.Given as goal

abbrev pub invariant-loop-h : goal.invariant-loop-h
invariant-loop-h l =
    let f = l.tree.forest in
    record {
      own : (u q : ℕ) → 0 < times l.tops u → times (drop l.h-index l.tops) u ≡ 0 → parent_of f u ≡ Some q → (box_at (told l.fn.entries).boxes q).scrollable ≡ false → IsFlat f (told l.entries) q;
      reads : ReadsReaches f (told l.fn.entries) (told l.entries);
      others : (k : ℕ) → is_over f l.tops k ≡ false → scrolled_at (told l.entries).scrolls k ≡ scrolled_at (told l.fn.entries).scrolls k;
      last : IfSome l.last (λ p. (box_at (told l.fn.entries).boxes p.0).scrollable ≡ false → IsFlat f (told l.entries) p.0);
      listed : listing_of l.entries ≡ listing_of l.fn.entries;
    }
