use Rattle.std.proofs.Common.{◌∙◌, ap, sym, Some}
use Rattle.std.proofs.lemmas.Option.{IfSome_then}
use Rattle.gui_base.specs.Corners.{rect_of}
use Rattle.scene_defs.specs.Items.{items_of}
use Rattle.scene_defs.specs.Scene.{object_at}
use Rattle.debt_defs.proofs.Samenesses.{visible-is}
use Rattle.gui_debts.proofs.Sparing.{moved-known}
use Rattle.gui_debts.proofs.seen.paints_in.Goals as goal

pub returns-then-same_corners : goal.returns-then-same_corners
returns-then-same_corners c = λ scene h keeps.
    let same = visible-is (Some (rect_of c.args.paints.now.place)) (Some (rect_of c.args.place)) (sym c.same_corners.ensures ∙ c.if-same_corners.true) in
    keeps ∙ ap (items_of scene (object_at scene h)) same

pub returns-else-same_corners : goal.returns-else-same_corners
returns-else-same_corners c = IfSome_then c.moved.result c.moved.ensures.items (λ moved moves scene h keeps. moved-known scene h c.args.paints.now moved (rect_of c.args.place) moves keeps)
