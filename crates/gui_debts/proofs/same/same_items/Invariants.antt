use Rattle.std.proofs.Common.{◌≡◌, drop, length}
use Rattle.debt_defs.specs.Same.{same_item, same_by}
use Rattle.gui_widgets.specs.Looks.{items_of}
use Rattle.gui_debts.proofs.same.same_items.Given as goal

abbrev pub invariant-loop-i : goal.invariant-loop-i
invariant-loop-i l = record {
  lengths : length l.a ≡ length l.b;
  left : same_by same_item (items_of l.fn.a) (items_of l.fn.b) ≡ same_by same_item (items_of (drop l.i l.fn.a)) (items_of (drop l.i l.fn.b));
}
