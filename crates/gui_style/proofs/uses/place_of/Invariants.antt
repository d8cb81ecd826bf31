use Rattle.std.proofs.Common.{◌≡◌, ◌+◌, ◌<◌, ◌^◌, length}
use Rattle.style_defs.specs.Firsts.{place_by}
use Rattle.style_defs.proofs.Places.{beyond}
use Rattle.gui_pool.specs.Lists.{list_of}
use Rattle.gui_style.specs.Styles.{is_handle}
use Rattle.gui_style.proofs.uses.place_of.Given as goal

abbrev pub invariant-loop-user : goal.invariant-loop-user
invariant-loop-user l = record {
  rest : place_by (is_handle l.h.0) (list_of l.users l.style) ≡ beyond l.place (place_by (is_handle l.h.0) l.handles);
  few : l.place + length l.handles < 2 ^ 32;
}

abbrev pub decreases-loop-user : goal.decreases-loop-user
decreases-loop-user l = length l.handles
