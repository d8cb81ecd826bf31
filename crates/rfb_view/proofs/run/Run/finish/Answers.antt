use Rattle.std.proofs.Common.{sym, subst}
use Rattle.gui_edge.proofs.Prefixes.{on_err}
use Rattle.scene_script.specs.Cutting.{Cutting, cut_says}
use Rattle.session_defs.specs.declared.RfbBad.{RfbBad}
use Rattle.rfb_view.specs.Cuts.{begins, CutDone, CutBroke}
use Rattle.rfb_view.specs.Running.{Finishes}
use Rattle.rfb_view.specs.Talking.{Outs, outs}
use Rattle.rfb_view.specs.declared.run.Run.{Run}
use Rattle.rfb_view.specs.declared.status.RfbStatus.TheVariants.{Bad}
use Rattle.rfb_view.proofs.Finishing.{finishes_session, finishes_cut, breaks_at_end}
use Rattle.rfb_view.proofs.run.Run.finish.Goals as goal

pub returns-then-self-clause-ends : goal.returns-then-self-clause-ends
returns-then-self-clause-ends g c = finishes_session _ c.args.self.now _ _ c.if-self.true (λ heard h. c.status.ensures.ends heard h)

pub returns-clause-ends : goal.returns-clause-ends
returns-clause-ends g c =
    let old : Run = c.args.self.now in
    let was = g.V.Viewed.machine c.args.viewed.now in
    let is = g.V.Viewed.machine c.take_cut.new.viewed in
    let before : Outs = outs (g.O.Sink.state c.args.out.now) (g.L.Sink.state c.args.log.now) in
    let after : Outs = outs (g.O.Sink.state c.take_cut.new.out) (g.L.Sink.state c.take_cut.new.log) in
    subst (λ (w : RfbBad). Finishes was old before after (Bad w)) (sym c.lack.ensures)
    (finishes_cut was old before c.if-self.false is c.take_cut.new.self after
    (subst (λ (k : Cutting). CutDone (begins k) (cut_says k) was (let mid : Run = record old { cutter = k } in mid) before is c.take_cut.new.self after) c.finish-cut.ensures.state c.in_ok-take_cut.ensures.ok))

pub returns-in_err-take_cut-clause-breaks : goal.returns-in_err-take_cut-clause-breaks
returns-in_err-take_cut-clause-breaks g c =
    let old : Run = c.args.self.now in
    let was = g.V.Viewed.machine c.args.viewed.now in
    let before : Outs = outs (g.O.Sink.state c.args.out.now) (g.L.Sink.state c.args.log.now) in
    let after : Outs = outs (g.O.Sink.state c.take_cut.new.out) (g.L.Sink.state c.take_cut.new.log) in
    on_err c.from_residual.result (breaks_at_end was old before c.if-self.false after
    (subst (λ (k : Cutting). CutBroke (begins k) (cut_says k) was (let mid : Run = record old { cutter = k } in mid) before after) c.finish-cut.ensures.state c.in_err-take_cut.ensures.err))
