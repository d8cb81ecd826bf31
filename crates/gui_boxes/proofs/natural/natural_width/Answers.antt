use Rattle.std.proofs.Common.{◌∙◌, refl, ap}
use Rattle.gui_boxes.specs.Totals.{total_of, run_across}
use Rattle.gui_boxes.proofs.Kids.{width_found}
use Rattle.gui_boxes.proofs.natural.natural_width.Goals as goal

pub returns-clause-value : goal.returns-clause-value
returns-clause-value c h kids is =
    width_found h c.args.own.now kids (total_of c.args.total) c.run_across.result c.with_gaps-kids.result c.natural_size.result
    (c.run_across.ensures ∙ ap run_across c.course_of.ensures) is c.with_gaps-kids.ensures.value (c.natural_size.ensures.value ∙ rw c.max.ensures refl)
