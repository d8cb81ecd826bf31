use Rattle.std.proofs.Common.{drop}
use Rattle.gui_boxes.specs.Gone.{HaveLeft}
use Rattle.gui_boxes.proofs.gone.have_left.Given as goal

abbrev pub invariant-loop-h : goal.invariant-loop-h
invariant-loop-h l = HaveLeft l.tree.forest l.entries (drop l.h-index l.listed) → HaveLeft l.tree.forest l.entries l.listed
