use Rattle.std.proofs.Common.{◌∙◌, ap, refl, false, set}
use Rattle.gui_boxes.specs.Standing.{Standing}
use Rattle.gui_boxes.specs.Tables.{told, listing_of}
use Rattle.gui_boxes.proofs.Listed.{listed_some, listed_replaced, rested_set}
use Rattle.gui_boxes.proofs.tables.let_rest.Goals as goal

pub replace-requires : goal.replace-requires
replace-requires c = listed_some c.args.entries.now c.args.h.0 c.requires

pub returns-clause-set : goal.returns-clause-set
returns-clause-set c =
    let l = told c.args.entries.now in
    let h = c.args.h.0 in
    let is = c.entry_of-changed.ensures.told in
    ap told c.replace.ensures.replaces
    ∙ (rested_set c.args.entries.now h c.entry_of-changed.result.now _ c.entry_of-changed.ensures.entry refl
    ∙ ap (λ (s : Standing). record l { touched = set l.touched h false; reported = set l.reported h s }) (λ i. record { width = is.width i; slot = is.slot i; scrolled = is.scrolled i }))

pub returns-clause-listed : goal.returns-clause-listed
returns-clause-listed c = ap listing_of c.replace.ensures.replaces ∙ listed_replaced c.args.entries.now c.args.h.0 _ c.requires
