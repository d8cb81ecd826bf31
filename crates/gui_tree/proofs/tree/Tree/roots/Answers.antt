use Rattle.std.proofs.Common.{ap}
use Rattle.gui_tree.specs.Walks.{walk}
use Rattle.gui_tree.proofs.Steps.{starts}
use Rattle.gui_tree.proofs.tree.Tree.roots.Goals as goal

pub invariant_of-result : goal.invariant_of-result
invariant_of-result c = (starts c.args.self.now.forest c.first_root.result c.spare.ensures.sound.once c.first_root.ensures).is

pub returns-clause-walk : goal.returns-clause-walk
returns-clause-walk c = ap (walk c.args.self.now.forest) (starts c.args.self.now.forest c.first_root.result c.spare.ensures.sound.once c.first_root.ensures).all
