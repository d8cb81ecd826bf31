use Rattle.std.proofs.Common.{◌∙◌, sym, subst, ℕ, ◌≤◌}
use Rattle.gui_board.proofs.Handled.{handles_start, handles_next, handles_end, handles_gone, handles_all}
use Rattle.gui_board.proofs.board.Board.run_at.Goals as goal

pub handlers-init : goal.handlers-init
handlers-init g c = handles_start _ _ _ _

pub returns : goal.returns
returns g c = handles_all _ _ _ _ _ _ c.handlers.invariant (subst (λ (m : ℕ). m ≤ c.handlers.n) c.handler_count-n-end.ensures c.handlers-test.false)

pub returns-then-not-has : goal.returns-then-not-has
returns-then-not-has g c = handles_gone _ _ _ _ _ _ c.handlers.invariant (sym c.has.ensures ∙ c.if-not-has.true)

pub returns-in-None : goal.returns-in-None
returns-in-None g c = handles_end _ _ _ _ _ _ c.handlers.invariant (sym c.has.ensures ∙ c.if-not-has.false) (sym c.nth.ensures ∙ c.in-None.is)

pub handlers-preserved : goal.handlers-preserved
handlers-preserved g c =
    handles_next _ _ _ _ _ _ _ _ c.handlers.invariant (sym c.has.ensures ∙ c.if-not-has.false) (sym c.nth.ensures ∙ c.in-Some.is) c.act.ensures
