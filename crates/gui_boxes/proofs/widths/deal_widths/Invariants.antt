use Rattle.std.proofs.Common.{ℕ, Bool, true, List, ◌≡◌, ◌≤◌, length, drop}
use Rattle.gui_base.specs.Forest.{children_of}
use Rattle.layout_defs.specs.Solving.{main_sizes}
use Rattle.gui_flex.specs.Items.{items_of}
use Rattle.gui_tree.proofs.Below.{IsBelow}
use Rattle.gui_boxes.specs.Tables.{told, listing_of}
use Rattle.gui_boxes.specs.Layouts.{ButTouchedWidths}
use Rattle.gui_boxes.specs.Touched.{is_touched, KeepsCalm}
use Rattle.gui_boxes.proofs.Touched.{TouchesRoots}
use Rattle.gui_boxes.proofs.Dealt.{Deals}
use Rattle.gui_boxes.proofs.widths.deal_widths.Given as goal

abbrev pub invariant-loop-child : goal.invariant-loop-child
invariant-loop-child l =
    let f = l.tree.forest in
    let was = told l.fn.entries in
    record {
      below : IsBelow f l.fn.h.0 l.child-iterator;
      within : l.i ≤ length l.items;
      listed : listing_of l.entries ≡ listing_of l.fn.entries;
      rest : ButTouchedWidths was (told l.entries);
      more : (k : ℕ) → is_touched was k ≡ true → is_touched (told l.entries) k ≡ true;
      calm : KeepsCalm 0 (is_touched (told l.entries)) was.widths (told l.entries).widths;
      roots : (t : ℕ → Bool) → TouchesRoots (is_touched (told l.entries)) t l.child-iterator.left → TouchesRoots (is_touched was) t (children_of f l.fn.h.0);
      later : (u : List ℕ) → Deals was l.room (told l.entries).widths u l.child-iterator.left (main_sizes (items_of (drop l.i l.items))) → Deals was l.room was.widths u (children_of f l.fn.h.0) (main_sizes (items_of l.items));
    }
