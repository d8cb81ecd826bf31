use Rattle.std.proofs.Common.{◌∙◌, ap, sym, refl, set}
use Rattle.std.proofs.lemmas.List.{set-get_or}
use Rattle.gui_boxes.specs.Tables.{told, listing_of}
use Rattle.gui_boxes.proofs.Listed.{listed_some, listed_replaced, natural_height_set}
use Rattle.gui_boxes.proofs.tables.set_natural_height.Goals as goal

pub replace-requires : goal.replace-requires
replace-requires c = listed_some c.args.entries.now c.args.h.0 c.requires.listed

pub returns-clause-set : goal.returns-clause-set
returns-clause-set c = ap told c.replace.ensures.replaces ∙ natural_height_set c.args.entries.now c.args.h.0 c.entry_of-known.result.now _ c.entry_of-known.ensures.entry refl

pub returns-clause-listed : goal.returns-clause-listed
returns-clause-listed c = ap listing_of c.replace.ensures.replaces ∙ listed_replaced c.args.entries.now c.args.h.0 _ c.requires.listed

pub returns-then-known-pixels-clause-set : goal.returns-then-known-pixels-clause-set
returns-then-known-pixels-clause-set c =
    let l = told c.args.entries.now in
    ap (λ xs. record l { natural_heights = xs }) (sym (set-get_or l.natural_heights c.args.h.0 0) ∙ ap (set l.natural_heights c.args.h.0) (sym c.entry_of-known.ensures.told.natural_height ∙ c.if-known-pixels.true))
