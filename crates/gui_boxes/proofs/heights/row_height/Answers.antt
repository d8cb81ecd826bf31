use Rattle.std.proofs.Common.{◌∙◌, refl}
use Rattle.layout_defs.specs.Solving.{height_item, tall_box}
use Rattle.gui_boxes.specs.Kids.{told_kids}
use Rattle.gui_boxes.specs.Settled.{tall_of}
use Rattle.gui_boxes.specs.Tables.{told}
use Rattle.gui_boxes.proofs.Lists.{part_mapped}
use Rattle.gui_boxes.proofs.heights.row_height.Goals as goal

pub returns-clause-value : goal.returns-clause-value
returns-clause-value c =
    let filled = c.fill_items-count.ensures.items ∙ part_mapped tall_of tall_box height_item (told_kids (told c.args.entries.now) c.args.tree.now.forest c.args.h.0) in
    c.tracks_height.ensures.value ∙ rw (filled, c.inner-room.ensures.value) refl
