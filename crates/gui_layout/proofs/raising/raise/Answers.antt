use Rattle.std.proofs.Common.{◌∙◌, sym, subst}
use Rattle.std.proofs.lemmas.Bool.{both_ways}
use Rattle.gui_pool.specs.Table.{Table, value_at}
use Rattle.gui_boxes.specs.declared.mark.Mark.{Mark}
use Rattle.gui_boxes.specs.Pending.{is_partly, is_pending}
use Rattle.gui_boxes.proofs.Pendings.{Raises, any-some, part-any, raised}
use Rattle.gui_layout.proofs.Resting.{it-rests}
use Rattle.gui_layout.proofs.raising.raise.Goals as goal
use Rattle.gui_layout.proofs.raising.raise.Goals.{After-replace}

pub returns-then-not-is_partly-clause-own : goal.returns-then-not-is_partly-clause-own
returns-then-not-is_partly-clause-own c part none = absurd (both_ways (is_partly c.args.pending.now c.args.h.0) (sym c.is_partly.ensures ∙ c.if-not-is_partly.true) part)

pub returns-then-rests-clause-own : goal.returns-then-rests-clause-own
returns-then-rests-clause-own c part none = it-rests c.args.tree.now.forest c.args.entries.now c.args.h.0 (sym c.rests.ensures ∙ c.if-rests.true)

pub replace-requires : goal.replace-requires
replace-requires c =
    let mark = value_at c.args.pending.now c.args.h.0 in
    any-some mark (part-any mark (sym c.is_partly.ensures ∙ c.if-not-is_partly.false))

done : (c : After-replace) → Raises c.args.pending.now c.replace.new.self c.args.h.0
done c =
    subst (λ (u : Table Mark). Raises c.args.pending.now u c.args.h.0) (sym c.replace.ensures.replaces)
    (raised c.args.pending.now c.args.h.0 (sym c.is_partly.ensures ∙ c.if-not-is_partly.false))

pub returns-clause-own : goal.returns-clause-own
returns-clause-own c part none = absurd (both_ways (is_pending c.replace.new.self c.args.h.0) none (done (goal.at.returns-clause-own c).After-replace).own)

pub returns-clause-more : goal.returns-clause-more
returns-clause-more c = (done (goal.at.returns-clause-more c).After-replace).more

pub returns-clause-still : goal.returns-clause-still
returns-clause-still c = (done (goal.at.returns-clause-still c).After-replace).still

pub returns-clause-any : goal.returns-clause-any
returns-clause-any c = (done (goal.at.returns-clause-any c).After-replace).any

pub returns-clause-listed : goal.returns-clause-listed
returns-clause-listed c = (done (goal.at.returns-clause-listed c).After-replace).listed

pub returns-clause-first : goal.returns-clause-first
returns-clause-first c = (done (goal.at.returns-clause-first c).After-replace).first
