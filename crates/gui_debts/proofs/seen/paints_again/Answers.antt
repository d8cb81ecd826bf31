use Rattle.std.proofs.Common.{◌∙◌, ap, sym, option_map, arith}
use Rattle.std.proofs.lemmas.Grind.{common_steps}
use Rattle.gui_base.specs.Corners.{rect_of}
use Rattle.scene_defs.specs.Items.{items_of}
use Rattle.scene_defs.specs.Scene.{object_at}
use Rattle.gui_store.specs.Views.{scene_of}
use Rattle.gui_debts.proofs.seen.paints_again.Goals as goal

pub returns-in-Some : goal.returns-in-Some
returns-in-Some c =
    let scene = scene_of c.args.store.now in
    let h = c.args.sighting.now.h.0 in
    let stands = ap (option_map rect_of) (sym c.in_ok-at.was) ∙ c.requires.sighted.place in
    (rw c.in-Some.is at c.paints_known.ensures) scene h c.requires.known ∙ ap (items_of scene (object_at scene h)) stands

pub paints_at-requires-clause-place : goal.paints_at-requires-clause-place
paints_at-requires-clause-place c = grind (arith, common_steps)
