use Rattle.std.proofs.Common.{◌∙◌, ap, refl}
use Rattle.gui_boxes.specs.Tables.{told, listing_of}
use Rattle.gui_boxes.proofs.Listed.{listed_some, listed_replaced, touched_set}
use Rattle.gui_boxes.proofs.tables.touch.Goals as goal

pub replace-requires : goal.replace-requires
replace-requires c = listed_some c.args.entries.now c.args.h.0 c.requires

pub returns-clause-set : goal.returns-clause-set
returns-clause-set c = ap told c.replace.ensures.replaces ∙ touched_set c.args.entries.now c.args.h.0 c.entry_of-known.result.now _ c.entry_of-known.ensures.entry refl

pub returns-clause-listed : goal.returns-clause-listed
returns-clause-listed c = ap listing_of c.replace.ensures.replaces ∙ listed_replaced c.args.entries.now c.args.h.0 _ c.requires
