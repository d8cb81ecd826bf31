use Rattle.std.proofs.Common.{length, take, sym, ap, ◌∙◌}
use Rattle.std.specs.List.{filter}
use Rattle.gui_pool.specs.Lists.{list_of}
use Rattle.gui_style.specs.Filed.{has_prop}
use Rattle.gui_style.proofs.ByProp.{is_own, ranks_left, place_within, removed_filed}
use Rattle.gui_style.proofs.entries.Entries.remove.Goals as goal

pub remove-requires-clause-there : goal.remove-requires-clause-there
remove-requires-clause-there c =
    let s = c.self.inside in let x = c.remove-entry.result in let o = c.args.owner in let n = c.args.n in
    let requires = rw (← c.self.view_is) at c.requires in
    let at = rw c.key_of.ensures.value at c.key_of.ensures.within in
    let place = c.rank-place.ensures ∙ ap (λ t. length (filter (has_prop x.prop) (take n (list_of t o)))) c.remove-entry.ensures.removed ∙ ranks_left s.all o requires.within x.prop n in
    rw (place, c.key_of.ensures.value) (place_within s.all s.by_prop c.self.invariant o requires.within x.prop at n x (sym c.remove-entry.ensures.value) (is_own x))

pub invariant_of-self : goal.invariant_of-self
invariant_of-self c =
    let s = c.self.inside in let x = c.remove-entry.result in let o = c.args.owner in let n = c.args.n in
    let requires = rw (← c.self.view_is) at c.requires in
    let at = rw c.key_of.ensures.value at c.key_of.ensures.within in
    let place = c.rank-place.ensures ∙ ap (λ t. length (filter (has_prop x.prop) (take n (list_of t o)))) c.remove-entry.ensures.removed ∙ ranks_left s.all o requires.within x.prop n in
    rw (c.remove.ensures.removed, place, c.key_of.ensures.value) (rw c.remove-entry.ensures.removed (removed_filed s.all s.by_prop c.self.invariant o requires.within x.prop at n x (sym c.remove-entry.ensures.value) (is_own x)))
