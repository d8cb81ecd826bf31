use Rattle.std.proofs.Common.{◌≡◌, ◌∙◌, ap, w32, to_z, of_z, arith}
use Rattle.std.specs.Prelude.{nat_abs}
use Rattle.std.proofs.lemmas.Int.{ints, to_z-of_z}
use Rattle.gui_base.specs.Area.{nat_of}
use Rattle.widget_defs.specs.Sizes.{own_height}
use Rattle.gui_store.specs.Views.{scene_of}
use Rattle.gui_widgets.specs.Looks.{widget_of}
use Rattle.gui_layout.proofs.SceneBoxes.{look-height}
use Rattle.gui_layout.proofs.objects.shown_height.Goals as goal

pub returns-clause-value : goal.returns-clause-value
returns-clause-value c =
    let scene = scene_of c.args.store.now in
    let n = c.own_height.ensures.value in
    let small = c.own_height.ensures.small in
    let kept : to_z w32 (of_z w32 c.own_height.result) ≡ c.own_height.result = to_z-of_z w32 c.own_height.result (omega (arith, ints, n, small)) in
    let from : to_z w32 (of_z w32 c.from.result) ≡ c.from.result = to_z-of_z w32 c.from.result (omega (arith, ints, c.from.ensures, c.ranges.room.fits)) in
    let room : nat_of (to_z w32 (of_z w32 c.from.result)) ≡ c.args.room = ap nat_of (from ∙ c.from.ensures) in
    c.unsigned_abs.ensures.value ∙ ap nat_abs (kept ∙ n) ∙ ap (own_height (widget_of c.look_in.result)) room
    ∙ look-height scene c.args.h.0 c.args.room (widget_of c.look_in.result) c.look_in.ensures.shows
