use Rattle.std.proofs.Common.{◌<◌, ◌∙◌, sym, subst, List}
use Rattle.std.specs.Prelude.{IsSome}
use Rattle.gui_base.specs.declared.Handle.{Handle}
use Rattle.gui_pool.specs.Table.{value_at}
use Rattle.gui_boxes.specs.Listing.{times}
use Rattle.gui_boxes.proofs.Listed.{some_listed}
use Rattle.gui_layout.proofs.Renewals.{box-some, some-kept}
use Rattle.gui_boxes.proofs.These.{count-some, some-count, these_kept}
use Rattle.gui_layout.proofs.places.Places.set_boxes.Goals as goal

pub renew_all-requires : goal.renew_all-requires
renew_all-requires c k some =
    let self = c.args.self.now in
    some_listed self.entries k (count-some self.entries k (subst (λ n. 0 < n) (sym (self.kept.each k)) (subst (λ (hs : List Handle). 0 < times hs k) c.as_slice.ensures.value some)))

pub invariant_of-self : goal.invariant_of-self
invariant_of-self c =
    let self = c.args.self.now in
    record {
      kept = these_kept self.limits.objects self.entries c.renew_all.new.entries self.listed.items c.renew_all.ensures.listed self.kept;
      list_room = self.list_room;
      found_room = self.found_room;
      items_room = self.items_room;
    }

pub returns-clause-boxes : goal.returns-clause-boxes
returns-clause-boxes c k some =
    let self = c.args.self.now in
    let u = c.renew_all.new.entries in
    let was : IsSome (value_at self.entries k) = sym (some-kept self.entries u k c.renew_all.ensures.listed) ∙ box-some u k some in
    c.renew_all.ensures.own k (subst (λ (hs : List Handle). 0 < times hs k) (sym c.as_slice.ensures.value) (subst (λ n. 0 < n) (self.kept.each k) (some-count self.entries k was)))
