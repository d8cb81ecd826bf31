use Rattle.std.proofs.Common.{◌∙◌, ap, sym}
use Rattle.layout_defs.specs.declared.Course.{Course}
use Rattle.layout_defs.specs.Boxes.{course_of, inner}
use Rattle.layout_defs.specs.Solving.{tall_box, taking_part, kids_height}
use Rattle.gui_boxes.specs.declared.measuring.Run.{Run}
use Rattle.gui_boxes.specs.Tables.{told}
use Rattle.gui_boxes.specs.Kids.{tall_kids}
use Rattle.gui_boxes.specs.Views.{axis_of, box_of}
use Rattle.gui_boxes.specs.Totals.{total_of, run_down, down_kid, sum_of, with_gaps}
use Rattle.gui_boxes.proofs.Columns.{column_is, none_is}
use Rattle.gui_boxes.proofs.heights.kids_height.Goals as goal

pub returns-then-total-eq0-clause-value : goal.returns-then-total-eq0-clause-value
returns-then-total-eq0-clause-value c =
    let own = c.args.own.now.wanted in
    let room = inner (axis_of own.across) c.args.own.now.width.pixels in
    let kids = tall_kids (told c.args.entries.now) c.args.tree.now.forest c.args.h.0 in
    sym (none_is (course_of own.flow) (box_of c.args.h.0 own) room kids (total_of c.args.total) c.requires.total c.if-total-eq0.true)

pub returns-in_default : goal.returns-in_default
returns-in_default c =
    let own = c.args.own.now.wanted in
    let box = box_of c.args.h.0 own in
    let room = inner (axis_of own.across) c.args.own.now.width.pixels in
    let kids = tall_kids (told c.args.entries.now) c.args.tree.now.forest c.args.h.0 in
    let total = c.requires.total ∙ ap (λ (course : Course). sum_of down_kid (run_down course) kids) (sym c.course_of-course.ensures) in
    record {
      value =
          c.with_gaps.ensures.value
          ∙ (ap (λ (run : Run). with_gaps run own.down.gap (total_of c.args.total)) c.run_down.ensures
          ∙ (column_is c.course_of-course.result box room kids (total_of c.args.total) c.in_default.not-Across total
          ∙ ap (λ (course : Course). kids_height course box room (taking_part tall_box kids)) c.course_of-course.ensures));
      small = c.with_gaps.ensures.small;
    }
