use Rattle.std.proofs.Common.{◌≡◌, ℕ, drop, length}
use Rattle.gui_boxes.specs.Listing.{HasThese}
use Rattle.gui_boxes.proofs.listing.clear.Given as goal

abbrev pub invariant-loop-h : goal.invariant-loop-h
invariant-loop-h g l = record {
  these : (objects : ℕ) → HasThese objects l.fn.table l.listed → HasThese objects l.table (drop l.h-index l.listed);
  keys : length l.table.values ≡ length l.fn.table.values;
}
