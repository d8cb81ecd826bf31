use Rattle.std.proofs.Common.{◌≡◌, ◌<◌, ℕ, true, drop}
use Rattle.gui_base.specs.Forest.{has}
use Rattle.gui_store.specs.Views.{scene_of}
use Rattle.gui_boxes.specs.Listing.{times}
use Rattle.gui_boxes.specs.Layouts.{ButBoxes}
use Rattle.gui_boxes.specs.Pending.{is_pending}
use Rattle.gui_layout.specs.Renewed.{IsRenewed, KeepsRenewed}
use Rattle.gui_boxes.specs.Tables.{listing_of, told}
use Rattle.gui_layout.proofs.renewal.renew_marked.Given as goal

abbrev pub invariant-loop-h : goal.invariant-loop-h
invariant-loop-h l =
    let scene = scene_of l.store in
    record {
      own : (k : ℕ) → 0 < times l.marked k → times (drop l.h-index l.marked) k ≡ 0 → is_pending l.pending k ≡ true → has l.tree.forest k ≡ true → IsRenewed scene (told l.entries).boxes k;
      kept : KeepsRenewed scene (told l.fn.entries).boxes (told l.entries).boxes;
      rest : ButBoxes (told l.fn.entries) (told l.entries);
      listed : listing_of l.entries ≡ listing_of l.fn.entries;
    }
