use Rattle.std.proofs.Common.{◌≡◌, ◌∙◌, sym, ap, subst, true, ◌+◌, arith}
use Rattle.std.specs.Io.KnownBytes.{Appends}
use Rattle.std.proofs.KnownBytes.{Appends-nil}
use Rattle.std.proofs.lemmas.Nat.{mul-le}
use Rattle.gui_base.specs.Area.{Rect, is_empty, is_within}
use Rattle.gui_edge.specs.Sink.{AppendsPrefix}
use Rattle.gui_edge.proofs.Prefixes.{on_err}
use Rattle.session_defs.specs.declared.Format.{Format}
use Rattle.session_defs.specs.Updates.{Sight, Answer, update}
use Rattle.rfb_view.specs.Blocks.{block_area}
use Rattle.rfb_view.specs.Sights.{IsSight, told}
use Rattle.rfb_view.proofs.Answering.{sends_none, sends_due, due_within, told_ready}
use Rattle.rfb_view.proofs.Lines.{block}
use Rattle.rfb_view.proofs.sight.Sight.answer.Goals as goal

pub returns-then-is_empty-clause-sight : goal.returns-then-is_empty-clause-sight
returns-then-is_empty-clause-sight g c =
    sym (ap (λ (a : Answer). a.sight) (sends_none c.args.width c.args.colors.now c.args.changes c.args.self.now (ap is_empty (sym c.area_due-area.ensures) ∙ sym c.is_empty.ensures ∙ c.if-is_empty.true)))

pub returns-then-is_empty-clause-ok : goal.returns-then-is_empty-clause-ok
returns-then-is_empty-clause-ok g c =
    subst (Appends _ _)
    (sym (ap (λ (a : Answer). a.bytes) (sends_none c.args.width c.args.colors.now c.args.changes c.args.self.now (ap is_empty (sym c.area_due-area.ensures) ∙ sym c.is_empty.ensures ∙ c.if-is_empty.true))))
    (Appends-nil (g.O.Sink.state c.args.out.now).held)

pub block_of-block-requires : goal.block_of-block-requires
block_of-block-requires g c =
    subst (λ (r : Rect). is_within (block 0 0 c.args.width c.args.height) r ≡ true) (sym c.area_due-area.ensures)
    (due_within c.args.width c.args.height c.args.colors.now c.args.changes c.args.self.now c.requires.ready (ap is_empty (sym c.area_due-area.ensures) ∙ sym c.is_empty.ensures ∙ c.if-is_empty.false))

pub put_update-requires-clause-high : goal.put_update-requires-clause-high
put_update-requires-clause-high g c =
    let b = c.block_of-block.result in
    omega (arith, c.requires.each, mul-le (b.top + b.lines) c.args.width c.args.height c.args.width c.block_of-block.ensures.high (omega arith))

pub tell-requires-clause-high : goal.tell-requires-clause-high
tell-requires-clause-high g c =
    let b = c.block_of-block.result in
    omega (arith, c.requires.each, mul-le (b.top + b.lines) c.args.width c.args.height c.args.width c.block_of-block.ensures.high (omega arith))

pub returns-in_err-put_update-clause-err : goal.returns-in_err-put_update-clause-err
returns-in_err-put_update-clause-err g c =
    on_err c.from_residual.result (subst (AppendsPrefix _ _)
    (ap (λ (f : Format). update c.args.width f c.args.colors.now (block_area c.block_of-block.result)) (ap (λ (s : Sight). s.format) c.self.view_is)
    ∙ ap (λ (r : Rect). update c.args.width c.args.self.now.format c.args.colors.now r) (sym c.block_of-block.ensures.block ∙ c.area_due-area.ensures)
    ∙ sym (ap (λ (a : Answer). a.bytes) (sends_due c.args.width c.args.colors.now c.args.changes c.args.self.now (ap is_empty (sym c.area_due-area.ensures) ∙ sym c.is_empty.ensures ∙ c.if-is_empty.false))))
    c.in_err-put_update.ensures.err)

pub returns-clause-ready : goal.returns-clause-ready
returns-clause-ready g c =
    subst (IsSight c.args.width c.args.height) (sym c.tell.ensures) (told_ready c.args.width c.args.height c.args.colors.now (block_area c.block_of-block.result) c.args.self.now c.requires.ready)

pub returns-clause-sight : goal.returns-clause-sight
returns-clause-sight g c =
    c.tell.ensures
    ∙ ap (λ (r : Rect). told c.args.width c.args.colors.now r c.args.self.now) (sym c.block_of-block.ensures.block ∙ c.area_due-area.ensures)
    ∙ sym (ap (λ (a : Answer). a.sight) (sends_due c.args.width c.args.colors.now c.args.changes c.args.self.now (ap is_empty (sym c.area_due-area.ensures) ∙ sym c.is_empty.ensures ∙ c.if-is_empty.false)))

pub returns-clause-ok : goal.returns-clause-ok
returns-clause-ok g c =
    subst (Appends _ _)
    (ap (λ (f : Format). update c.args.width f c.args.colors.now (block_area c.block_of-block.result)) (ap (λ (s : Sight). s.format) c.self.view_is)
    ∙ ap (λ (r : Rect). update c.args.width c.args.self.now.format c.args.colors.now r) (sym c.block_of-block.ensures.block ∙ c.area_due-area.ensures)
    ∙ sym (ap (λ (a : Answer). a.bytes) (sends_due c.args.width c.args.colors.now c.args.changes c.args.self.now (ap is_empty (sym c.area_due-area.ensures) ∙ sym c.is_empty.ensures ∙ c.if-is_empty.false))))
    c.in_ok-put_update.ensures.ok
