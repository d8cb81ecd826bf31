use Rattle.std.proofs.Common.{◌≡◌, ◌<◌, ℕ, true, false, drop}
use Rattle.std.specs.Prelude.{vec_capacity}
use Rattle.gui_base.specs.Forest.{has, tree_at}
use Rattle.gui_boxes.specs.Listing.{times}
use Rattle.gui_boxes.specs.Pending.{is_first}
use Rattle.gui_boxes.specs.Tables.{listing_of, told}
use Rattle.gui_boxes.specs.Telling.{Tells}
use Rattle.gui_boxes.specs.Touched.{is_touched}
use Rattle.gui_layout.specs.Moved.{AreClosed}
use Rattle.gui_layout.specs.Tops.{in_trees_at}
use Rattle.gui_layout.proofs.telling.tell_trees.Given as goal

abbrev pub invariant-loop-top : goal.invariant-loop-top
invariant-loop-top l =
    let f = l.tree.forest in
    let now = told l.entries in
    record {
      tells : Tells f (is_first l.pending) (told l.fn.entries) now l.fn.moved.items l.moved.items;
      closed : AreClosed f (is_touched now) l.tops;
      own : (u k : ℕ) → 0 < times l.tops u → times (drop l.top-index l.tops) u ≡ 0 → has (tree_at f u) k ≡ true → is_touched now k ≡ false;
      within : (k : ℕ) → is_touched (told l.fn.entries) k ≡ true → is_touched now k ≡ false → in_trees_at f l.tops k ≡ true;
      capacity : vec_capacity l.moved ≡ vec_capacity l.fn.moved;
      listed : listing_of l.entries ≡ listing_of l.fn.entries;
    }
