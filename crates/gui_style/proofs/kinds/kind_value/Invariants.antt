use Rattle.std.proofs.Common.{◌≡◌, None, map, fold, take}
use Rattle.style_defs.specs.Cascade.{stronger, of_entry}
use Rattle.style_defs.specs.Kinds.{entry_in}
use Rattle.gui_style.proofs.kinds.kind_value.Given as goal

abbrev pub invariant-loop-row : goal.invariant-loop-row
invariant-loop-row l =
    l.best ≡ fold stronger None (map (of_entry l.part l.states l.prop) (map entry_in (take l.row-index l.row-items)))
