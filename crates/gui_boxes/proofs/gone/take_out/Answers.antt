use Rattle.std.proofs.Common.{◌≡◌, ◌∙◌, ◌+◌, sym, ap, subst, true, not, cond, eqb, get_or, length, List}
use Rattle.std.specs.Prelude.{is_some}
use Rattle.std.proofs.lemmas.List.{get_or_default}
use Rattle.gui_base.specs.declared.Handle.{Handle}
use Rattle.std.specs.List.{swap_remove}
use Rattle.gui_boxes.specs.Gone.{StandsAt}
use Rattle.gui_boxes.specs.Listing.{times}
use Rattle.gui_boxes.proofs.Entered.{nothing}
use Rattle.gui_boxes.proofs.Taking.{length-taken, these_taken, times-taken}
use Rattle.gui_boxes.proofs.gone.take_out.Goals as goal

pub returns-in-Some-clause-these : goal.returns-in-Some-clause-these
returns-in-Some-clause-these c objects these =
    let hs = c.args.listed.now.items in
    let h = c.args.h.0 in
    let i = c.in-Some.i in
    let last = c.swap_remove.result in
    let us = c.swap_remove.new.self.items in
    let at : StandsAt hs i h = subst (λ (ks : List Handle). StandsAt ks i h) c.as_slice.ensures.value c.in-Some.ensures.found in
    let same : (get_or hs i last).0 ≡ h = ap (λ (g : Handle). g.0) (get_or_default hs i last nothing at.within) ∙ at.same in
    let short : length us + 1 ≡ length hs = ap (λ (ks : List Handle). length ks + 1) c.swap_remove.ensures.items ∙ length-taken hs i last at.within in
    let had : is_some c.remove-taken.result ≡ true = c.is_none.ensures ∙ ap not c.if-is_none.false in
    these_taken objects c.args.entries.now c.remove-taken.new.self h hs us c.remove-taken.result had c.remove-taken.ensures.value c.remove-taken.ensures.removes short
    (λ k.
    ap (λ (ks : List Handle). times ks k + cond (eqb h k) 1 0) c.swap_remove.ensures.items
    ∙ (ap (λ j. times (swap_remove hs i last) k + cond (eqb j k) 1 0) (sym same)
    ∙ times-taken hs i k last at.within))
    these
