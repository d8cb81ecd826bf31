use Rattle.std.proofs.Common.{◌≡◌, ◌<◌, ℕ, true, drop}
use Rattle.gui_boxes.specs.Layouts.{ButTouched}
use Rattle.gui_boxes.specs.Listing.{times}
use Rattle.gui_boxes.specs.Tables.{listing_of, told}
use Rattle.gui_boxes.specs.Touched.{is_touched}
use Rattle.gui_layout.proofs.touching.touch_all.Given as goal

abbrev pub invariant-loop-h : goal.invariant-loop-h
invariant-loop-h l = record {
  own : (k : ℕ) → 0 < times l.listed k → times (drop l.h-index l.listed) k ≡ 0 → is_touched (told l.entries) k ≡ true;
  rest : ButTouched (told l.fn.entries) (told l.entries);
  listed : listing_of l.entries ≡ listing_of l.fn.entries;
}
