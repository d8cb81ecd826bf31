use Rattle.std.proofs.Common.{◌≡◌}
use Rattle.session_defs.specs.Updates.{Sight, with_area, number_at}
use Rattle.rfb_view.proofs.Lines.{block}
use Rattle.rfb_view.proofs.sight.Sight.tell.Given as goal

-- the pixels of the lines so far were sent
abbrev pub invariant-loop-line : goal.invariant-loop-line
invariant-loop-line l =
    l.self ≡ (let sight : Sight = record l.fn.self { sent = with_area l.width (block l.block.left l.block.top l.block.columns l.line) (number_at l.fn.self.format l.colors) l.fn.self.sent } in sight)
