use Rattle.std.proofs.Common.{◌≡◌, None, length, map, fold}
use Rattle.style_defs.specs.Cascade.{stronger, of_use}
use Rattle.style_defs.specs.Book.{uses_of}
use Rattle.gui_style.proofs.styles.Styles.best_shared.Given as goal

abbrev pub invariant-loop-used : goal.invariant-loop-used
invariant-loop-used l =
    fold stronger None (map (of_use l.self.book.styles l.part l.states l.prop) (uses_of l.self.book l.fn.h.0)) ≡ fold stronger l.best (map (of_use l.self.book.styles l.part l.states l.prop) l.uses)

abbrev pub decreases-loop-used : goal.decreases-loop-used
decreases-loop-used l = length l.uses
