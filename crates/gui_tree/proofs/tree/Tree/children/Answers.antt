use Rattle.std.proofs.Common.{ap}
use Rattle.gui_tree.specs.Walks.{walk}
use Rattle.gui_tree.proofs.Steps.{starts_below}
use Rattle.gui_tree.proofs.tree.Tree.children.Goals as goal

pub invariant_of-result : goal.invariant_of-result
invariant_of-result c = (starts_below c.args.self.now.forest c.args.h.0 c.first_child.result c.spare.ensures.sound.once c.first_child.ensures).is

pub returns-clause-walk : goal.returns-clause-walk
returns-clause-walk c = ap (walk c.args.self.now.forest) (starts_below c.args.self.now.forest c.args.h.0 c.first_child.result c.spare.ensures.sound.once c.first_child.ensures).all
