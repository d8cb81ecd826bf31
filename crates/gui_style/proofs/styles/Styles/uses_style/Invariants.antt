use Rattle.std.proofs.Common.{◌≡◌, length}
use Rattle.std.specs.List.{list_any}
use Rattle.gui_style.specs.Styles.{is_of_style, uses_style}
use Rattle.gui_style.proofs.styles.Styles.uses_style.Given as goal

abbrev pub invariant-loop-used : goal.invariant-loop-used
invariant-loop-used l = uses_style l.self.book l.fn.h.0 l.id ≡ list_any (is_of_style l.id) l.uses

abbrev pub decreases-loop-used : goal.decreases-loop-used
decreases-loop-used l = length l.uses
