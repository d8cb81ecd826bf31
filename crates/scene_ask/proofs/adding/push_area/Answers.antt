use Rattle.std.proofs.Common.{rules, w32}
use Rattle.std.proofs.lemmas.Int.{to_z-of_z}
use Rattle.scene_ask.proofs.Joining.{two_more}
use Rattle.scene_ask.proofs.adding.push_area.Goals as goal

pub returns-clause-items : goal.returns-clause-items
returns-clause-items c =
    two_more _ _ _ _ _ (rw (to_z-of_z w32 c.args.area.x1 (search rules), to_z-of_z w32 c.args.area.y1 (search rules)) at c.push_two.ensures.items)
    (rw (to_z-of_z w32 c.args.area.x2 (search rules), to_z-of_z w32 c.args.area.y2 (search rules)) at c.push_two-2.ensures.items)
