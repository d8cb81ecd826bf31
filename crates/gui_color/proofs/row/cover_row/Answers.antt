use Rattle.std.proofs.Common.{arith}
use Rattle.std.proofs.lemmas.List.{get_or_default}
use Rattle.std.proofs.lemmas.List.Edits.{map_over_more}
use Rattle.gui_base.specs.declared.color.Rgb565.{Rgb565}
use Rattle.gui_color.proofs.row.cover_row.Goals as goal

pub loop-pixel-preserved : goal.loop-pixel-preserved
loop-pixel-preserved c =
    map_over_more (λ (bg : Rgb565). c.args.fg) c.args.row.now c.loop-pixel.row c.loop-pixel.pixel-index _ c.loop-pixel-test.true c.loop-pixel.invariant
    (get_or_default c.loop-pixel.row c.loop-pixel.pixel-index c.args.fg _ (omega arith))
