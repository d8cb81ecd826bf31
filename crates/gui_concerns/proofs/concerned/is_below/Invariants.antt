use Rattle.std.proofs.Common.{◌≡◌, eqb}
use Rattle.std.specs.List.{list_any}
use Rattle.gui_store.specs.Views.{scene_of}
use Rattle.gui_concerns.specs.Concerned.{is_below}
use Rattle.gui_concerns.proofs.concerned.is_below.Given as goal

abbrev pub invariant-loop-above : goal.invariant-loop-above
invariant-loop-above l = is_below (scene_of l.store) l.h.0 l.fn.k.0 ≡ list_any (λ j. eqb j l.h.0) l.above-iterator
