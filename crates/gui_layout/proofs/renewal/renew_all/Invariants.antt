use Rattle.std.proofs.Common.{◌≡◌, ◌<◌, ℕ, drop}
use Rattle.gui_store.specs.Views.{scene_of}
use Rattle.gui_boxes.specs.Listing.{times}
use Rattle.gui_layout.specs.Renewed.{IsRenewed}
use Rattle.gui_boxes.specs.Tables.{listing_of, told}
use Rattle.gui_layout.proofs.renewal.renew_all.Given as goal

abbrev pub invariant-loop-h : goal.invariant-loop-h
invariant-loop-h l = record {
  own : (k : ℕ) → 0 < times l.listed k → times (drop l.h-index l.listed) k ≡ 0 → IsRenewed (scene_of l.store) (told l.entries).boxes k;
  listed : listing_of l.entries ≡ listing_of l.fn.entries;
}
