use Rattle.std.proofs.Common.{◌<◌, length, subst}
use Rattle.gui_base.specs.Forest.{roots}
use Rattle.gui_tree.specs.Walks.{Walk, IsVisit, walk, trees_from}
use Rattle.gui_tree.proofs.Steps.{steps, shorter}
use Rattle.gui_tree.proofs.children.ChildrenIterator.next.Goals as goal
use Rattle.gui_tree.proofs.children.ChildrenIterator.next.Goals.{After-next-next}

pub invariant_of-self : goal.invariant_of-self
invariant_of-self c = (steps c.self.inside.tree.now.forest c.self.inside.next c.in_ok-child.child c.next-next.result c.self.invariant c.in_ok-child.was c.next-next.ensures).is

visit : (c : After-next-next) → IsVisit c.args.self.now c.in_ok-child.child.0 (walk c.self.inside.tree.now.forest (trees_from c.next-next.result c.self.inside.tree.now.forest))
visit c =
    let f = c.self.inside.tree.now.forest in
    subst (λ (w : Walk). IsVisit w c.in_ok-child.child.0 (walk f (trees_from c.next-next.result f))) c.self.view_is
    (steps f c.self.inside.next c.in_ok-child.child c.next-next.result c.self.invariant c.in_ok-child.was c.next-next.ensures).visit

pub returns-clause-steps : goal.returns-clause-steps
returns-clause-steps c = visit (goal.at.returns-clause-steps c).After-next-next

pub returns-clause-goes : goal.returns-clause-goes
returns-clause-goes c =
    let f = c.self.inside.tree.now.forest in
    let less : length (roots (trees_from c.next-next.result f)) < length (roots c.args.self.now.left) =
    shorter c.args.self.now _ c.in_ok-child.child.0 (visit (goal.at.returns-clause-goes c).After-next-next) in
    record { on = λ _. (tt, tt, less); keeps = tt; rests = λ _. tt }
