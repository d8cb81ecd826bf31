use Rattle.std.proofs.Common.{◌≡◌, ◌∙◌, sym, ap, w32, to_z, of_z, arith}
use Rattle.std.specs.Prelude.{nat_abs}
use Rattle.std.proofs.lemmas.Int.{ints, to_z-of_z}
use Rattle.layout_defs.specs.Boxes.{Box}
use Rattle.scene_defs.specs.Row.{shown_row}
use Rattle.gui_store.specs.Views.{scene_of}
use Rattle.gui_widgets.specs.Looks.{widget_of}
use Rattle.gui_layout.proofs.SceneBoxes.{row_found, look-width}
use Rattle.gui_layout.proofs.objects.shown_width.Goals as goal

pub returns-clause-value : goal.returns-clause-value
returns-clause-value c =
    let scene = scene_of c.args.store.now in
    let n = c.own_width.ensures.value in
    let small = c.own_width.ensures.small in
    let kept : to_z w32 (of_z w32 c.own_width.result) ≡ c.own_width.result = to_z-of_z w32 c.own_width.result (omega (arith, ints, n, small)) in
    c.unsigned_abs.ensures.value ∙ ap nat_abs (kept ∙ n)
    ∙ look-width scene c.args.h.0 (widget_of c.look_in.result) c.look_in.ensures.shows
    ∙ sym (ap (λ (b : Box). b.own_width) (row_found scene c.args.h.0 (shown_row c.args.row.now) c.requires.row).1)
