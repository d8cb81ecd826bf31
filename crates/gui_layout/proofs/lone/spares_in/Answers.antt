use Rattle.std.proofs.Common.{◌∙◌, sym, ap}
use Rattle.std.specs.Option.{option_copied}
use Rattle.gui_boxes.specs.Tables.{told}
use Rattle.gui_boxes.proofs.Listed.{is_entry}
use Rattle.gui_layout.proofs.Without.{spares-one}
use Rattle.gui_layout.proofs.lone.spares_in.Goals as goal

pub returns : goal.returns
returns c is f =
    let entries = c.args.entries.now in
    let p = c.args.parent.0 in
    let h = c.args.h.0 in
    let own = is_entry entries p _ (ap option_copied (sym c.in-Some.is) ∙ c.get.ensures) in
    let kid = is_entry entries h _ (ap option_copied (sym c.in-Some-get.is) ∙ c.get-2.ensures) in
    spares-one f (told entries) h p c.in-Some.own.now c.in-Some-get.kid.now own kid (c.spares.ensures.still is) (c.spares.ensures.across is p h) (c.spares.ensures.down is p h)
