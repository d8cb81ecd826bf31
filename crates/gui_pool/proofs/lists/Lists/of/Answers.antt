use Rattle.std.proofs.Common.{◌<◌, sym, ap, ◌∙◌, arith}
use Rattle.std.specs.Int.Bits.{bit_and}
use Rattle.gui_pool.specs.Lists.{list_of}
use Rattle.gui_pool.specs.Owners.{values_of}
use Rattle.gui_pool.proofs.OwnValues.{values_of_few}
use Rattle.gui_pool.proofs.Owners.{list_is, has_owners}
use Rattle.gui_pool.proofs.lists.Lists.of.Goals as goal

pub returns-clause-value : goal.returns-clause-value
returns-clause-value g c =
    let s = c.self.inside in
    let lt : c.args.owner < s.owners = omega (arith, rw (← c.self.view_is) at c.requires, has_owners s.buckets s.mask s.owners) in
    let xs = list_of s.buckets (bit_and c.args.owner s.mask) in
    rw (← c.self.view_is) (ap (values_of c.args.owner) c.of.ensures.value ∙ sym (list_is s.buckets s.mask s.owners c.args.owner lt))

pub returns-clause-few : goal.returns-clause-few
returns-clause-few g c =
    let le = values_of_few c.of.result c.args.owner in
    omega (arith, le, c.of.ensures.few)
