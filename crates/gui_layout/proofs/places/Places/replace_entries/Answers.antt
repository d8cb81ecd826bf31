use Rattle.std.proofs.Common.{◌≡◌, ◌∙◌, sym, ap, subst, ℕ, List, [], arith}
use Rattle.std.proofs.lemmas.Grind.{common_steps}
use Rattle.gui_base.specs.declared.Handle.{Handle}
use Rattle.gui_pool.specs.Table.{Table}
use Rattle.gui_boxes.specs.Listing.{HasThese}
use Rattle.gui_layout.proofs.places.Places.replace_entries.Goals as goal

-- a table that had no value has one for each of these
filled : {T : Type 0} (objects : ℕ) (t u : Table T) (before found hs : List Handle) → HasThese objects t before → before ≡ [] → HasThese t.spare u found → found ≡ hs → HasThese objects u hs
filled {T} objects t u before found hs had none these same =
    let blank : HasThese objects t [] = subst (HasThese objects t) none had in
    let room : t.spare ≡ objects = let all = blank.room in omega arith in
    subst (HasThese objects u) same (subst (λ n. HasThese n u found) room these)

pub invariant_of-self : goal.invariant_of-self
invariant_of-self c =
    let self = c.forget.new.self in
    let n = self.limits.objects in
    let none = c.forget.ensures.empty in
    let same = c.as_slice.ensures.value ∙ ap (λ v. v.items) (sym c.swap.ensures.x_after) in
    let rooms = c.swap.ensures in
    let list_room = self.list_room in
    let found_room = self.found_room in
    record {
      kept = filled n self.entries c.fill.new.table self.listed.items _ _ self.kept none c.fill.ensures same;
      list_room = rw rooms.x_after found_room;
      found_room = rw rooms.y_after list_room;
      items_room = self.items_room;
    }

pub fill-requires-clause-blank : goal.fill-requires-clause-blank
fill-requires-clause-blank c = grind (arith, common_steps)

pub fill-requires-clause-few : goal.fill-requires-clause-few
fill-requires-clause-few c = grind (arith, common_steps)

pub fill-requires-clause-proper : goal.fill-requires-clause-proper
fill-requires-clause-proper c = grind (arith, common_steps)
