use Rattle.std.proofs.Common.{drop}
use Rattle.gui_boxes.proofs.These.{HasBut}
use Rattle.gui_store.specs.Views.{scene_of}
use Rattle.gui_debts.specs.Sightings.{AreSighted}
use Rattle.gui_debts.specs.Sights.{AreSeen}
use Rattle.gui_change.proofs.scene_look.see_all.Given as goal

abbrev pub invariant-loop-h : goal.invariant-loop-h
invariant-loop-h l = record {
  nearby : AreSighted (scene_of l.store) l.nearby;
  but : HasBut l.fn.table.spare l.table l.listed (drop l.h-index l.listed);
  seen : AreSeen l.table (scene_of l.store);
}
