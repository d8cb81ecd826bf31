use Rattle.std.proofs.Common.{◌≡◌, ◌+◌, ◌<◌, ◌^◌, length}
use Rattle.style_defs.specs.Firsts.{place_by}
use Rattle.style_defs.proofs.Places.{beyond}
use Rattle.style_defs.specs.Book.{uses_of, is_use}
use Rattle.gui_style.proofs.styles.Styles.use_place.Given as goal

abbrev pub invariant-loop-other : goal.invariant-loop-other
invariant-loop-other l = record {
  rest : place_by (is_use l.used) (uses_of l.self.book l.fn.h.0) ≡ beyond l.place (place_by (is_use l.used) l.uses);
  few : l.place + length l.uses < 2 ^ 32;
}

abbrev pub decreases-loop-other : goal.decreases-loop-other
decreases-loop-other l = length l.uses
