use Rattle.std.proofs.Common.{◌∙◌, sym, subst}
use Rattle.gui_pool.specs.Table.{Table, value_at}
use Rattle.gui_boxes.specs.declared.mark.Mark.{Mark}
use Rattle.gui_boxes.proofs.Finishing.{Finishes, finishes, pending-some}
use Rattle.gui_boxes.proofs.pending.finish.Goals as goal
use Rattle.gui_boxes.proofs.pending.finish.Goals.{After-replace}

pub replace-requires : goal.replace-requires
replace-requires c = pending-some (value_at c.args.pending.now c.args.h.0) (sym c.is_pending.ensures ∙ c.if-is_pending.true)

done : (c : After-replace) → Finishes c.args.pending.now c.replace.new.self c.args.h.0
done c =
    let t = c.args.pending.now in
    let h = c.args.h.0 in
    subst (λ (u : Table Mark). Finishes t u h) (sym c.replace.ensures.replaces) (finishes t h c.settled-mark.result (sym c.is_pending.ensures ∙ c.if-is_pending.true) c.settled-mark.ensures.done (c.settled-mark.ensures.first ∙ c.is_first.ensures))

pub returns-then-is_pending-clause-own : goal.returns-then-is_pending-clause-own
returns-then-is_pending-clause-own c = (done (goal.at.returns-then-is_pending-clause-own c).After-replace).own

pub returns-then-is_pending-clause-rest : goal.returns-then-is_pending-clause-rest
returns-then-is_pending-clause-rest c = (done (goal.at.returns-then-is_pending-clause-rest c).After-replace).rest

pub returns-then-is_pending-clause-listed : goal.returns-then-is_pending-clause-listed
returns-then-is_pending-clause-listed c = (done (goal.at.returns-then-is_pending-clause-listed c).After-replace).listed

pub returns-then-is_pending-clause-first : goal.returns-then-is_pending-clause-first
returns-then-is_pending-clause-first c = (done (goal.at.returns-then-is_pending-clause-first c).After-replace).first
