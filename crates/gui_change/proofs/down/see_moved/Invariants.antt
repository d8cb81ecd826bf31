use Rattle.std.proofs.Common.{None, ◌<◌, ℕ, drop}
use Rattle.gui_boxes.specs.Listing.{times}
use Rattle.gui_store.specs.Views.{scene_of}
use Rattle.gui_debts.specs.Sightings.{AreSighted}
use Rattle.gui_change.specs.Down.{SeesDown}
use Rattle.gui_change.specs.Sees.{IsSeenIn}
use Rattle.gui_change.proofs.down.see_moved.Given as goal

abbrev pub invariant-loop-h : goal.invariant-loop-h
invariant-loop-h l =
    let scene = scene_of l.after.store.now in
    record {
      nearby : AreSighted scene l.nearby;
      down : SeesDown None scene l.fn.table l.table l.fn.damage l.damage;
      done : (k : ℕ) → times (drop l.h-index l.moved) k < times l.moved k → IsSeenIn l.table scene k;
    }
