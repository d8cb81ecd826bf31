use Rattle.std.proofs.Common.{refl}
use Rattle.gui_edge.proofs.Prefixes.{on_err}
use Rattle.rfb_view.proofs.Talks.{broke_by, prefix_none}
use Rattle.rfb_view.proofs.talk.Talk.touch.Goals as goal

pub returns-in_err-input-clause-broke : goal.returns-in_err-input-clause-broke
returns-in_err-input-clause-broke g c = on_err c.from_residual.result (broke_by _ _ _ _ refl (prefix_none _ (g.O.Sink.state c.args.out.now)) c.in_err-input.ensures.err)
