use Rattle.std.proofs.Common.{slice_index_or, arith}
use Rattle.std.proofs.lemmas.List.{get_or_default}
use Rattle.std.proofs.lemmas.List.Edits.{map_over_more}
use Rattle.gui_base.specs.declared.color.Rgb565.{Rgb565}
use Rattle.gui_base.specs.Color.{mix, black}
use Rattle.gui_color.proofs.row.blend_each.Goals as goal

pub loop-pixel-preserved : goal.loop-pixel-preserved
loop-pixel-preserved c =
    let bg : Rgb565 = slice_index_or c.loop-pixel.row c.loop-pixel.pixel-index black in
    rw (c.over.ensures) (map_over_more (λ p. mix c.args.veil.fg p c.args.veil.opa) c.args.row.now c.loop-pixel.row c.loop-pixel.pixel-index bg c.loop-pixel-test.true c.loop-pixel.invariant
    (get_or_default c.loop-pixel.row c.loop-pixel.pixel-index black bg (omega arith)))
