use Rattle.std.proofs.Common.{◌≡◌, ◌∙◌, ap, rules, w32, Some}
use Rattle.std.proofs.lemmas.Int.{to_z-of_z}
use Rattle.scene_defs.specs.Scene.{Scene, row_at}
use Rattle.gui_core.specs.Machines.{machine_of}
use Rattle.scene_defs.specs.Row.{shown_row}
use Rattle.scene_ask.specs.Asking.{integer}
use Rattle.scene_ask.proofs.Joining.{two_more, says_some}
use Rattle.scene_ask.proofs.asking.push_fact.Goals as goal

pub returns-in-Some-clause-items : goal.returns-in-Some-clause-items
returns-in-Some-clause-items c =
    let there : Some (shown_row c.in-Some.row.now) ≡ row_at (machine_of c.args.gui.now).scene c.args.h.0 =
    c.in-Some.ensures.value ∙ ap (λ (scene : Scene). row_at scene c.args.h.0) c.store.ensures in
    rw c.in-Value.is (says_some (λ row. integer row.value) _ _ _ _ _ _ there c.push_bytes.ensures
    (rw (to_z-of_z w32 c.in-Some.row.now.value (search rules)) at c.push_integer.ensures.items))

pub returns-in-Place-clause-items : goal.returns-in-Place-clause-items
returns-in-Place-clause-items c =
    rw (c.in-Place.is, ← (c.place.ensures.value ∙ c.places.ensures.solved c.args.h.0))
    (two_more _ _ _ _ _ c.push_bytes-in-Place.ensures c.push_place.ensures.items)
