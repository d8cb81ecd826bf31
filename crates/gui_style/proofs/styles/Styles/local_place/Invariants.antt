use Rattle.std.proofs.Common.{◌≡◌, ◌+◌, ◌<◌, ◌^◌, length}
use Rattle.style_defs.specs.Firsts.{place_by}
use Rattle.style_defs.proofs.Places.{beyond}
use Rattle.style_defs.specs.Book.{locals_of, is_for}
use Rattle.gui_style.proofs.styles.Styles.local_place.Given as goal

abbrev pub invariant-loop-entry : goal.invariant-loop-entry
invariant-loop-entry l = record {
  rest : place_by (is_for l.selector l.prop) (locals_of l.self.book l.fn.h.0) ≡ beyond l.place (place_by (is_for l.selector l.prop) l.entries);
  few : l.place + length l.entries < 2 ^ 32;
}

abbrev pub decreases-loop-entry : goal.decreases-loop-entry
decreases-loop-entry l = length l.entries
