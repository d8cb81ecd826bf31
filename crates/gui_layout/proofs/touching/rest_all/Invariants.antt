use Rattle.std.proofs.Common.{◌≡◌, ◌<◌, ℕ, drop}
use Rattle.gui_boxes.specs.Layouts.{ButTold}
use Rattle.gui_boxes.specs.Listing.{times}
use Rattle.gui_boxes.specs.Tables.{listing_of, told}
use Rattle.gui_boxes.specs.Touched.{IsAtRest}
use Rattle.gui_layout.proofs.touching.rest_all.Given as goal

abbrev pub invariant-loop-h : goal.invariant-loop-h
invariant-loop-h l = record {
  own : (k : ℕ) → 0 < times l.listed k → times (drop l.h-index l.listed) k ≡ 0 → IsAtRest (told l.entries) k;
  rest : ButTold (told l.fn.entries) (told l.entries);
  listed : listing_of l.entries ≡ listing_of l.fn.entries;
}
