use Rattle.std.proofs.Common.{◌≡◌, length, slice_get}
use Rattle.play_defs.specs.Handlers.{handlers_of, actions_of}
use Rattle.gui_event.proofs.handlers.Handlers.nth.Given as goal

abbrev pub invariant-loop-handler : goal.invariant-loop-handler
invariant-loop-handler l =
    slice_get (actions_of l.kind (handlers_of l.self.lists l.fn.h.0)) l.fn.n ≡ slice_get (actions_of l.kind l.handlers) l.left

abbrev pub decreases-loop-handler : goal.decreases-loop-handler
decreases-loop-handler l = length l.handlers
