use Rattle.std.proofs.Common.{◌∙◌, ap, sym, refl, set}
use Rattle.std.proofs.lemmas.List.{set-get_or}
use Rattle.gui_boxes.specs.Scrolls.{not_scrolled}
use Rattle.gui_boxes.specs.Tables.{told, listing_of}
use Rattle.gui_boxes.proofs.Listed.{listed_some, listed_replaced, scrolled_set}
use Rattle.gui_boxes.proofs.tables.set_scrolled.Goals as goal

pub replace-requires : goal.replace-requires
replace-requires c = listed_some c.args.entries.now c.args.h.0 c.requires

pub returns-clause-set : goal.returns-clause-set
returns-clause-set c = ap told c.replace.ensures.replaces ∙ scrolled_set c.args.entries.now c.args.h.0 c.entry_of-known.result.now _ c.entry_of-known.ensures.entry refl

pub returns-clause-listed : goal.returns-clause-listed
returns-clause-listed c = ap listing_of c.replace.ensures.replaces ∙ listed_replaced c.args.entries.now c.args.h.0 _ c.requires

pub returns-then-is_same_scrolled-clause-set : goal.returns-then-is_same_scrolled-clause-set
returns-then-is_same_scrolled-clause-set c =
    let l = told c.args.entries.now in
    ap (λ xs. record l { scrolls = xs }) (sym (set-get_or l.scrolls c.args.h.0 not_scrolled) ∙ ap (set l.scrolls c.args.h.0) (sym c.entry_of-known.ensures.told.scrolled ∙ c.is_same_scrolled.ensures.same c.if-is_same_scrolled.true))
