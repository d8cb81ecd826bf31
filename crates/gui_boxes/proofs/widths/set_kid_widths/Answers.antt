use Rattle.std.proofs.Common.{◌∙◌, ap}
use Rattle.layout_defs.specs.Boxes.{Box, course_of}
use Rattle.layout_defs.specs.Solving.{kid_widths, kid_widths_by}
use Rattle.gui_boxes.specs.Kids.{wide_kids}
use Rattle.gui_boxes.specs.Tables.{told}
use Rattle.gui_boxes.specs.Views.{box_at, box_of}
use Rattle.gui_tree.proofs.Below.{own_tree}
use Rattle.gui_boxes.proofs.widths.set_kid_widths.Goals as goal

pub entry_of-own-requires : goal.entry_of-own-requires
entry_of-own-requires c = c.requires.listed c.args.h.0 (own_tree c.args.tree.now.forest c.args.h.0 c.requires.there)

pub returns-clause-kids : goal.returns-clause-kids
returns-clause-kids c =
    let l = told c.args.entries.now in
    let h = c.args.h.0 in
    let own = c.entry_of-own.result.now in
    let kids = wide_kids l c.args.tree.now.forest h in
    c.deal_widths.ensures.dealt
    ∙ (c.row_shares-count.ensures.dealt
    ∙ (ap (λ room. kid_widths_by (course_of own.wanted.flow) (box_of h own.wanted) room kids) c.inner-room.ensures.value
    ∙ (ap (λ (b : Box). kid_widths b own.width.pixels kids) c.entry_of-own.ensures.told.wanted
    ∙ ap (λ width. kid_widths (box_at l.boxes h) width kids) c.entry_of-own.ensures.told.width)))
