use Rattle.std.proofs.Common.{◌∙◌, sym, ap, subst}
use Rattle.rfb_view.specs.Endings.{outside, Serves}
use Rattle.rfb_view.specs.Running.{IsFresh}
use Rattle.rfb_view.specs.Talking.{Outs, outs, IsOver}
use Rattle.rfb_view.specs.declared.talk.Talk.{Talk}
use Rattle.rfb_view.proofs.Gone.{fresh_read}
use Rattle.rfb_view.proofs.running.run_session.Goals as goal

pub read_pieces-requires-clause-over : goal.read_pieces-requires-clause-over
read_pieces-requires-clause-over g c = subst (λ (t : Talk). IsOver (g.V.Viewed.machine c.args.viewed.now) t) (sym c.new-run.ensures.talk) c.requires.over

pub read_pieces-requires-clause-quiet : goal.read_pieces-requires-clause-quiet
read_pieces-requires-clause-quiet g c = ap (λ (t : Talk). t.fault) c.new-run.ensures.talk ∙ c.requires.fresh.fault_is

pub read_pieces-requires-clause-count : goal.read_pieces-requires-clause-count
read_pieces-requires-clause-count g c = ap (λ (t : Talk). t.hearing.count) c.new-run.ensures.talk ∙ c.requires.fresh.heard.count

pub returns-clause-serves : goal.returns-clause-serves
returns-clause-serves g c =
    let was = g.V.Viewed.machine c.args.viewed.now in
    let before : Outs = outs (g.O.Sink.state c.args.out.now) (g.L.Sink.state c.args.log.now) in
    let fresh : IsFresh was c.new-run.result.talk = subst (IsFresh was) (sym c.new-run.ensures.talk) c.requires.fresh in
    subst (λ (t : Talk). Serves t.ms was (outside (g.S.Source.state c.args.source.now) before)
    (outside (g.S.Source.state c.read_pieces.new.source) (outs (g.O.Sink.state c.read_pieces.new.out) (g.L.Sink.state c.read_pieces.new.log))) c.read_pieces.result) c.new-run.ensures.talk
    (c.read_pieces.ensures.serves was before (fresh_read was c.new-run.result before fresh (ap (λ (t : Talk). t.noted) c.new-run.ensures.talk ∙ c.requires.unnoted) c.new-run.ensures.line c.new-run.ensures.number c.new-run.ensures.begun))
