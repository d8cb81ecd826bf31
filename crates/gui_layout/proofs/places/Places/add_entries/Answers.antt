use Rattle.std.proofs.Common.{◌<◌, ◌∙◌, ◌++◌, ◌∷◌, [], sym, ap, subst, List, length, arith}
use Rattle.std.specs.Prelude.{Some, None}
use Rattle.std.proofs.lemmas.List.{get_or-set_same}
use Rattle.gui_base.specs.declared.Handle.{Handle}
use Rattle.gui_pool.specs.Table.{Table, value_at}
use Rattle.gui_boxes.specs.Tables.{touched_or}
use Rattle.gui_boxes.specs.declared.entry.Entry.{Entry}
use Rattle.gui_boxes.specs.Listing.{AddsValue, HasThese}
use Rattle.gui_boxes.proofs.Adding.{adds, these_joined, vacant_is}
use Rattle.gui_layout.proofs.places.Places.add_entries.Goals as goal
use Rattle.gui_layout.proofs.places.Places.add_entries.Goals.{After-put}

within : (c : After-put) → c.args.h.0 < length c.args.self.now.entries.values
within c = let keys = c.args.self.now.kept.keys in let low = c.requires.low in omega arith

pub invariant_of-self : goal.invariant_of-self
invariant_of-self c =
    let self = c.args.self.now in
    let n = self.limits.objects in
    let hs = self.listed.items in
    let h = c.args.h in
    let few = c.requires.room in
    let these = self.kept in
    let spare = these.room in
    let low : h.0 < length self.entries.values = let keys = these.keys in let low = c.requires.low in omega arith in
    let joined : HasThese n c.put.new.table (hs ++ h ∷ []) =
    subst (λ (t : Table Entry). HasThese n t (hs ++ h ∷ [])) (sym c.put.ensures) (these_joined self.entries h _ low (vacant_is n self.entries hs h.0 these c.requires.new) n hs these (omega arith)) in
    let room = self.list_room in
    record {
      kept = subst (λ (ks : List Handle). HasThese n c.put.new.table ks) (sym c.push_reserved.ensures.items) joined;
      list_room = rw c.push_reserved.ensures.capacity room;
      found_room = self.found_room;
      items_room = self.items_room;
    }

pub returns-clause-added : goal.returns-clause-added
returns-clause-added c =
    let self = c.args.self.now in
    let d = (goal.at.returns-clause-added c).After-put in
    subst (λ (t : Table Entry). AddsValue c.args.h.0 self.entries t) (sym c.put.ensures) (adds self.entries c.args.h _ (within d) (vacant_is self.limits.objects self.entries self.listed.items c.args.h.0 self.kept c.requires.new))

pub put-requires-clause-vacant : goal.put-requires-clause-vacant
put-requires-clause-vacant c = let self = c.args.self.now in vacant_is self.limits.objects self.entries self.listed.items c.args.h.0 self.kept c.requires.new

pub returns-clause-rests : goal.returns-clause-rests
returns-clause-rests c =
    let self = c.args.self.now in
    let h = c.args.h.0 in
    let d = (goal.at.returns-clause-rests c).After-put in
    ap (λ (t : Table Entry). touched_or (value_at t h)) c.put.ensures ∙ (ap touched_or (get_or-set_same self.entries.values h (Some c.new_entry.result) None (within d)) ∙ c.new_entry.ensures.rests)
