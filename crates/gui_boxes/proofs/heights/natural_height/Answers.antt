use Rattle.std.proofs.Common.{◌∙◌, ap, refl}
use Rattle.layout_defs.specs.Solving.{natural_height}
use Rattle.gui_boxes.specs.Kids.{tall_kids}
use Rattle.gui_boxes.specs.Tables.{told}
use Rattle.gui_boxes.specs.Views.{box_at}
use Rattle.gui_boxes.proofs.Columns.{height_found}
use Rattle.gui_boxes.proofs.heights.natural_height.Goals as goal

pub returns-clause-value : goal.returns-clause-value
returns-clause-value c =
    let l = told c.args.entries.now in
    let kids = tall_kids l c.args.tree.now.forest c.args.h.0 in
    height_found l.boxes c.args.h.0 c.args.own.now.width.pixels c.args.own.now.wanted kids c.kids_height-kids.result c.natural_size.result
    c.requires.own.wanted c.kids_height-kids.ensures.value (c.natural_size.ensures.value ∙ rw c.max.ensures refl)
    ∙ ap (λ width. natural_height (box_at l.boxes c.args.h.0) width kids) c.requires.own.width
