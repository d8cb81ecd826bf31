use Rattle.std.proofs.Common.{◌≡◌, ◌∙◌, sym, ap, subst, List}
use Rattle.gui_base.specs.declared.Handle.{Handle}
use Rattle.gui_boxes.specs.Listing.{HasThese, those_in}
use Rattle.gui_layout.proofs.places.Places.leave.Goals as goal

pub invariant_of-self : goal.invariant_of-self
invariant_of-self c =
    let self = c.args.self.now in
    let n = self.limits.objects in
    let f = c.args.tree.now.forest in
    let list_room = self.list_room in
    let found_room = self.found_room in
    let left : those_in f c.as_slice.result.now ≡ c.swap.new.x.items = sym (ap (λ v. v.items) c.swap.ensures.x_after ∙ c.take_gone.ensures.found) in
    record {
      kept = subst (λ (hs : List Handle). HasThese n c.take_gone.new.entries hs) left (c.take_gone.ensures.kept.these n (rw c.as_slice.ensures.value self.kept));
      list_room = rw (c.swap.ensures.x_after, c.take_gone.ensures.capacity, c.clear.ensures.capacity) found_room;
      found_room = rw c.swap.ensures.y_after list_room;
      items_room = self.items_room;
    }
