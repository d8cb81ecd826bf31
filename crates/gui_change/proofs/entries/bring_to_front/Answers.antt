use Rattle.std.proofs.Common.{◌≡◌, ◌∙◌, ◌-◌, sym, ap, subst, List, Some, None, length, position, arith}
use Rattle.std.proofs.lemmas.List.{take_rest, with_items_is}
use Rattle.gui_change.specs.Entries.{all_entries}
use Rattle.gui_change.specs.Fronts.{Fronts, is_of}
use Rattle.gui_change.specs.declared.entries.Entry.{Entry}
use Rattle.gui_change.proofs.Placing.{from-own, goes-where, none-listed, put-last, put-length}
use Rattle.gui_change.proofs.entries.bring_to_front.Goals as goal
use borrow.Rule.Slice.PartMut.{put_mid}

pub returns-in_default-clause-listed : goal.returns-in_default-clause-listed
returns-in_default-clause-listed c after fronts =
    let h = c.args.h.0 in
    let none : position (is_of h) c.args.listed.now.items ≡ None = ap (λ (l : List Entry). position (is_of h) l) (sym c.as_slice.ensures.value) ∙ (sym c.place_of.ensures.place ∙ c.in_default.is) in
    none-listed h c.args.parent.0 c.args.listed.now.items after none fronts

pub returns-clause-listed : goal.returns-clause-listed
returns-clause-listed c after fronts =
    let h = c.args.h.0 in
    let p = c.args.parent.0 in
    let v = c.args.listed.now in
    let s = c.as_mut_slice.result.now in
    let start = c.in-Some.start in
    let new = c.bring_to_bars.new.listed in
    let lent = c.as_mut_slice.ensures.value in
    let found : position (is_of h) s ≡ Some start = ap (λ (l : List Entry). position (is_of h) l) (lent ∙ sym c.as_slice.ensures.value) ∙ (sym c.place_of.ensures.place ∙ c.in-Some.is) in
    let own_fronts : Fronts h p (all_entries s) after = subst (λ (l : List Entry). Fronts h p (all_entries l) after) (sym lent) fronts in
    let g = goes-where h p s after start found own_fronts in
    let now = c.bring_to_bars.ensures g.inside g.beside g.after g.whole g.last (ap (λ (l : List Entry). all_entries l) (take_rest s start) ∙ from-own h p s after start found g) in
    let long = c.as_mut_slice.ensures.len in
    let within = c.in-Some.ensures.within in
    let many = ap length lent in
    let more = ap length c.as_slice.ensures.value in
    let kept = put-length h p s after start found g new now (omega (arith, within, many, more)) in
    ap (λ (l : List Entry). all_entries l) (with_items_is v (put_mid start (length s - start) s new) (omega (arith, kept, long))) ∙ put-last h p s after start found g new now
