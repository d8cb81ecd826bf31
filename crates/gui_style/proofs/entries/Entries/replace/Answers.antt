use Rattle.gui_pool.specs.Lists.{list_of}
use Rattle.gui_style.specs.Filed.{has_prop}
use Rattle.gui_style.proofs.ByProp.{is_own, place_within, replaced_filed, found}
use Rattle.gui_style.proofs.entries.Entries.replace.Goals as goal

pub replace-requires-2-clause-there : goal.replace-requires-2-clause-there
replace-requires-2-clause-there c =
    let s = c.self.inside in let v = c.args.entry in let o = c.args.owner in
    let requires = rw (← c.self.view_is) at c.requires in
    let at = rw c.key_of-key.ensures.value at c.key_of-key.ensures.within in
    let x = found (has_prop v.prop) (list_of s.all o) c.args.n requires.there requires.same in
    rw (c.rank-place.ensures, c.key_of-key.ensures.value) (place_within s.all s.by_prop c.self.invariant o requires.within v.prop at c.args.n x.0 x.1 x.2)

pub invariant_of-self : goal.invariant_of-self
invariant_of-self c =
    let s = c.self.inside in let v = c.args.entry in let o = c.args.owner in
    let requires = rw (← c.self.view_is) at c.requires in
    let at = rw c.key_of-key.ensures.value at c.key_of-key.ensures.within in
    let x = found (has_prop v.prop) (list_of s.all o) c.args.n requires.there requires.same in
    rw (c.replace.ensures.replaced, c.replace-2.ensures.replaced, c.rank-place.ensures, c.key_of-key.ensures.value) (replaced_filed s.all s.by_prop c.self.invariant o requires.within v.prop at c.args.n x.0 x.1 x.2 v (is_own v))
