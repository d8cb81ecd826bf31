use Rattle.std.proofs.Common.{◌≡◌, length, map, fold}
use Rattle.style_defs.specs.Cascade.{stronger, of_entry}
use Rattle.style_defs.specs.Book.{locals_of}
use Rattle.gui_style.proofs.styles.Styles.best_local.Given as goal

abbrev pub invariant-loop-entry : goal.invariant-loop-entry
invariant-loop-entry l =
    fold stronger l.fn.shared (map (of_entry l.part l.states l.prop) (locals_of l.self.book l.fn.h.0)) ≡ fold stronger l.best (map (of_entry l.part l.states l.prop) l.entries)

abbrev pub decreases-loop-entry : goal.decreases-loop-entry
decreases-loop-entry l = length l.entries
