use Rattle.std.proofs.Common.{◌∙◌, sym, subst}
use Rattle.std.proofs.lemmas.Result.{on_ok_weaker, on_err_weaker}
use Rattle.scene_script.specs.Cutting.{Cutting, cut_says}
use Rattle.rfb_view.specs.Cuts.{begins, CutDone, CutBroke}
use Rattle.rfb_view.specs.Talking.{Outs, outs}
use Rattle.rfb_view.specs.declared.run.Run.{Run}
use Rattle.rfb_view.proofs.Going.{reads_cut, reads_talk, reads_nothing, some_fault, no_fault, on_ok_four}
use Rattle.rfb_view.proofs.Stopping.{breaks_cut, breaks_talk}
use Rattle.rfb_view.proofs.run.Run.take_byte.Goals as goal

pub returns-then-not-self-clause-reads : goal.returns-then-not-self-clause-reads
returns-then-not-self-clause-reads g c =
    let old : Run = c.args.self.now in
    let was = g.V.Viewed.machine c.args.viewed.now in
    let is = g.V.Viewed.machine c.take_cut.new.viewed in
    let before : Outs = outs (g.O.Sink.state c.args.out.now) (g.L.Sink.state c.args.log.now) in
    let after : Outs = outs (g.O.Sink.state c.take_cut.new.out) (g.L.Sink.state c.take_cut.new.log) in
    on_ok_weaker c.take_cut.result
    (λ d. reads_cut was old before is c.take_cut.new.self after c.args.byte c.if-not-self.true c.requires.over
    (subst (λ (k : Cutting). CutDone (begins k) (cut_says k) was (let mid : Run = record old { cutter = k } in mid) before is c.take_cut.new.self after) c.push-cut.ensures.state d))
    c.take_cut.ensures.ok

pub returns-then-not-self-clause-breaks : goal.returns-then-not-self-clause-breaks
returns-then-not-self-clause-breaks g c =
    let old : Run = c.args.self.now in
    let was = g.V.Viewed.machine c.args.viewed.now in
    let before : Outs = outs (g.O.Sink.state c.args.out.now) (g.L.Sink.state c.args.log.now) in
    let after : Outs = outs (g.O.Sink.state c.take_cut.new.out) (g.L.Sink.state c.take_cut.new.log) in
    on_err_weaker c.take_cut.result
    (λ d. breaks_cut was old before after c.args.byte c.if-not-self.true
    (subst (λ (k : Cutting). CutBroke (begins k) (cut_says k) was (let mid : Run = record old { cutter = k } in mid) before after) c.push-cut.ensures.state d))
    c.take_cut.ensures.err

pub returns-then-is_some-clause-reads : goal.returns-then-is_some-clause-reads
returns-then-is_some-clause-reads g c =
    let f = some_fault c.args.self.now.talk.fault (sym c.is_some.ensures ∙ c.if-is_some.true) in
    reads_nothing _ c.args.self.now _ c.args.byte f.0 c.if-not-self.false f.1 c.requires.over

pub returns-clause-reads : goal.returns-clause-reads
returns-clause-reads g c =
    let none = no_fault c.args.self.now.talk.fault (sym c.is_some.ensures ∙ c.if-is_some.false) in
    on_ok_four c.take_byte.result
    (λ over stays room takes. reads_talk _ c.args.self.now _ _ c.take_byte.new.self _ c.args.byte c.if-not-self.false none over stays room takes)
    c.take_byte.ensures.over c.take_byte.ensures.stays c.take_byte.ensures.room c.take_byte.ensures.takes

pub returns-clause-breaks : goal.returns-clause-breaks
returns-clause-breaks g c =
    let none = no_fault c.args.self.now.talk.fault (sym c.is_some.ensures ∙ c.if-is_some.false) in
    on_err_weaker c.take_byte.result (λ d. breaks_talk _ c.args.self.now _ _ c.args.byte c.if-not-self.false none d) c.take_byte.ensures.broke

pub take_cut-requires-clause-number : goal.take_cut-requires-clause-number
take_cut-requires-clause-number g c = c.requires.room.number c.if-not-self.true
