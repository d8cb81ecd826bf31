use Rattle.std.proofs.Common.{◌≡◌, ◌∙◌, ◌∷◌, sym, ap, length, ℕ, List, Option, arith}
use Rattle.gui_base.specs.declared.Handle.{Handle}
use Rattle.gui_tree.specs.Walks.{line_from}
use Rattle.gui_tree.proofs.Paths.{line_step}
use Rattle.gui_tree.proofs.ancestors.AncestorsIterator.next.Goals as goal
use Rattle.gui_tree.proofs.ancestors.AncestorsIterator.next.Goals.{After-parent-next}

line : (c : After-parent-next) → c.args.self.now ≡ c.in_ok-above.above.0 ∷ line_from c.parent-next.result c.self.inside.tree.now.forest
line c =
    let f = c.self.inside.tree.now.forest in
    let h = c.in_ok-above.above.0 in
    sym c.self.view_is
    ∙ (ap (λ (o : Option Handle). line_from o f) c.in_ok-above.was
    ∙ (line_step f h c.self.invariant ∙ ap (λ (o : Option Handle). h ∷ line_from o f) (sym c.parent-next.ensures)))

pub returns-clause-steps : goal.returns-clause-steps
returns-clause-steps c = line (goal.at.returns-clause-steps c).After-parent-next

pub returns-clause-goes : goal.returns-clause-goes
returns-clause-goes c = record { on = λ _. (tt, tt, omega (arith, ap (λ (hs : List ℕ). length hs) (line (goal.at.returns-clause-goes c).After-parent-next))); keeps = tt; rests = λ _. tt }
