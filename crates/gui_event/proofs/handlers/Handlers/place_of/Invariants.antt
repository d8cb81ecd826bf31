use Rattle.std.proofs.Common.{◌≡◌, ◌+◌, ◌<◌, ◌^◌, length}
use Rattle.play_defs.specs.Handlers.{handlers_of, is_of}
use Rattle.gui_event.specs.Kept.{place_by}
use Rattle.gui_event.proofs.Firsts.{beyond}
use Rattle.gui_event.proofs.handlers.Handlers.place_of.Given as goal

abbrev pub invariant-loop-handler : goal.invariant-loop-handler
invariant-loop-handler l = record {
  rest : place_by (is_of l.kind) (handlers_of l.self.lists l.fn.h.0) ≡ beyond l.place (place_by (is_of l.kind) l.handlers);
  few : l.place + length l.handlers < 2 ^ 32;
}

abbrev pub decreases-loop-handler : goal.decreases-loop-handler
decreases-loop-handler l = length l.handlers
