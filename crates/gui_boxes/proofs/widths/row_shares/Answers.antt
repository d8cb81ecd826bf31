use Rattle.std.proofs.Common.{◌∙◌, sym, ap, List, map, arith}
use Rattle.layout_defs.specs.declared.Course.{Course}
use Rattle.layout_defs.specs.Flex.{TrackItem, shared}
use Rattle.layout_defs.specs.Boxes.{course_of, wraps, is_reversed}
use Rattle.layout_defs.specs.Solving.{wide_box, taking_part, width_item, width_in, dealt, main_sizes, in_order, kid_widths_by}
use Rattle.gui_flex.specs.declared.item.FlexItem.{FlexItem}
use Rattle.gui_flex.specs.Items.{items_of}
use Rattle.gui_boxes.specs.Tables.{told}
use Rattle.gui_boxes.specs.Kids.{told_kids, wide_kids}
use Rattle.gui_boxes.specs.Settled.{wide_of}
use Rattle.gui_boxes.specs.Views.{box_of}
use Rattle.gui_boxes.proofs.Lists.{part_mapped, part_now, main_sizes-in_order, dealt-unshared}
use Rattle.gui_boxes.proofs.widths.row_shares.Goals as goal

pub returns-in-Across-clause-dealt : goal.returns-in-Across-clause-dealt
returns-in-Across-clause-dealt c =
    let kids = wide_kids (told c.args.entries.now) c.args.tree.now.forest c.args.h.0 in
    let room = c.args.room in
    let back = is_reversed c.args.own.now.flow in
    ap (λ (row : List FlexItem). dealt wide_box (width_in room) kids (main_sizes (items_of row))) (part_now c.fill_items-count.result c.fill_items-count.new.items c.share_in_order.new.items _ c.fill_items-count.ensures.within c.share_in_order.auto.items)
    ∙ (ap (λ (items : List TrackItem). dealt wide_box (width_in room) kids (main_sizes items)) c.share_in_order.ensures.items
    ∙ (ap (λ (items : List TrackItem). dealt wide_box (width_in room) kids (main_sizes (in_order back (shared (wraps c.args.own.now.flow) room c.args.own.now.across.gap (in_order back items))))) (c.fill_items-count.ensures.items ∙ part_mapped wide_of wide_box (width_item room) (told_kids (told c.args.entries.now) c.args.tree.now.forest c.args.h.0))
    ∙ (ap (dealt wide_box (width_in room) kids) (main_sizes-in_order back (shared (wraps c.args.own.now.flow) room c.args.own.now.across.gap (in_order back (map (width_item room) (taking_part wide_box kids)))))
    ∙ ap (λ (course : Course). kid_widths_by course (box_of c.args.h.0 c.args.own.now) room kids) (sym c.in-Across.is ∙ c.course_of.ensures))))

pub returns-in_default : goal.returns-in_default
returns-in_default c = record {
  dealt =
      let kids = wide_kids (told c.args.entries.now) c.args.tree.now.forest c.args.h.0 in
      dealt-unshared (course_of c.args.own.now.flow) (box_of c.args.h.0 c.args.own.now) c.args.room kids (λ e. c.in_default.not-Across (c.course_of.ensures ∙ e));
  within = omega arith;
}
