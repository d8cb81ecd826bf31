use Rattle.std.proofs.Common.{◌≡◌, length}
use Rattle.play_defs.specs.Handlers.{handlers_of}
use Rattle.gui_event.specs.Handlers.{without_kind}
use Rattle.gui_event.proofs.handlers.Handlers.drop_kind.Given as goal

abbrev pub invariant-loop-place : goal.invariant-loop-place
invariant-loop-place l = without_kind l.self l.fn.h.0 l.kind ≡ without_kind l.initial.self l.fn.h.0 l.kind

abbrev pub decreases-loop-place : goal.decreases-loop-place
decreases-loop-place l = length (handlers_of l.self.lists l.fn.h.0)
