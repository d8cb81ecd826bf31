use Rattle.std.proofs.Common.{drop}
use Rattle.gui_boxes.proofs.These.{HasBut}
use Rattle.gui_boxes.proofs.listing.fill.Given as goal

abbrev pub invariant-loop-h : goal.invariant-loop-h
invariant-loop-h g l = HasBut l.fn.table.spare l.table l.listed (drop l.h-index l.listed)
