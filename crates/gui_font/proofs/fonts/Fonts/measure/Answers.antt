use Rattle.std.proofs.Common.{rules}
use Rattle.std.specs.Str.{chars}
use Rattle.gui_font.proofs.Measuring.{measuring_few, measured_some}
use Rattle.gui_font.proofs.Scanning.{chars_few}
use Rattle.gui_font.proofs.fonts.Fonts.measure.Goals as goal

pub overflow_add-count : goal.overflow_add-count
overflow_add-count c =
    let few = measuring_few _ (chars c.args.text.now) _ _ _ c.lines.invariant.measuring (chars_few c.args.text.now c.utf8.text c.requires.short) in search rules

pub height_of-requires-clause-some : goal.height_of-requires-clause-some
height_of-requires-clause-some c = measured_some _ (chars c.args.text.now) _ _ _ c.lines.invariant.measuring c.in_default.ensures.run.0

pub height_of-requires-clause-few : goal.height_of-requires-clause-few
height_of-requires-clause-few c = measuring_few _ (chars c.args.text.now) _ _ _ c.lines.invariant.measuring (chars_few c.args.text.now c.utf8.text c.requires.short)
