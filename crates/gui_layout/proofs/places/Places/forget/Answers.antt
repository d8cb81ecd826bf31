use Rattle.std.proofs.Common.{sym, subst, List}
use Rattle.gui_base.specs.declared.Handle.{Handle}
use Rattle.gui_boxes.specs.Listing.{HasThese}
use Rattle.gui_layout.proofs.places.Places.forget.Goals as goal

pub invariant_of-self : goal.invariant_of-self
invariant_of-self c =
    let self = c.args.self.now in
    let n = self.limits.objects in
    let list_room = self.list_room in
    record {
      kept = subst (λ (hs : List Handle). HasThese n c.clear.new.table hs) (sym c.clear-2.ensures.items) (c.clear.ensures.these n (rw c.as_slice.ensures.value self.kept));
      list_room = rw c.clear-2.ensures.capacity list_room;
      found_room = self.found_room;
      items_room = self.items_room;
    }
