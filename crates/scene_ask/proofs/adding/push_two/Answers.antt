use Rattle.std.proofs.Common.{rules, w32}
use Rattle.std.proofs.lemmas.Int.{to_z-of_z}
use Rattle.scene_ask.proofs.Joining.{two_more}
use Rattle.scene_ask.proofs.adding.push_two.Goals as goal

pub returns-clause-items : goal.returns-clause-items
returns-clause-items c =
    two_more _ _ _ _ _ (rw (to_z-of_z w32 c.args.x (search rules)) at c.push_integer.ensures.items) (rw (to_z-of_z w32 c.args.y (search rules)) at c.push_integer-2.ensures.items)
