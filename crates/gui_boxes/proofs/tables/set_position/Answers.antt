use Rattle.std.proofs.Common.{◌∙◌, ap, sym, refl, set}
use Rattle.std.proofs.lemmas.List.{set-get_or}
use Rattle.layout_defs.specs.Solving.{nowhere}
use Rattle.gui_boxes.specs.Tables.{told, listing_of}
use Rattle.gui_boxes.proofs.Listed.{listed_some, listed_replaced, position_set}
use Rattle.gui_boxes.proofs.tables.set_position.Goals as goal

pub replace-requires : goal.replace-requires
replace-requires c = listed_some c.args.entries.now c.args.h.0 c.requires

pub returns-clause-set : goal.returns-clause-set
returns-clause-set c = ap told c.replace.ensures.replaces ∙ position_set c.args.entries.now c.args.h.0 c.entry_of-known.result.now _ c.entry_of-known.ensures.entry refl

pub returns-clause-listed : goal.returns-clause-listed
returns-clause-listed c = ap listing_of c.replace.ensures.replaces ∙ listed_replaced c.args.entries.now c.args.h.0 _ c.requires

pub returns-then-is_same-clause-set : goal.returns-then-is_same-clause-set
returns-then-is_same-clause-set c =
    let l = told c.args.entries.now in
    ap (λ xs. record l { slots = xs }) (sym (set-get_or l.slots c.args.h.0 nowhere) ∙ ap (set l.slots c.args.h.0) (sym c.entry_of-known.ensures.told.slot ∙ c.is_same.ensures.same c.if-is_same.true))
