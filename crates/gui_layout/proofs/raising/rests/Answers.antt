use Rattle.std.proofs.Common.{◌∙◌, sym, ap, refl, option_copied}
use Rattle.std.specs.Prelude.{is_some}
use Rattle.layout_defs.specs.Boxes.{Box}
use Rattle.gui_boxes.specs.Settled.{is_steady}
use Rattle.gui_boxes.proofs.Listed.{is_entry}
use Rattle.gui_layout.proofs.raising.rests.Goals as goal

pub returns-in-Some : goal.returns-in-Some
returns-in-Some c =
    let h = c.args.h.0 in
    let value = ap option_copied (sym c.in-Some.is) ∙ c.get.ensures in
    rw (
      sym c.has.ensures ∙ c.if-not-has.false,
      ap is_some (sym value),
      ap (λ (b : Box). is_steady b) (sym (is_entry c.args.entries.now h _ value).wanted) ∙ sym (c.is_steady.ensures.value h),
    ) refl
