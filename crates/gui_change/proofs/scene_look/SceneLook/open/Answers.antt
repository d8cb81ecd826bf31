use Rattle.std.proofs.Common.{◌≡◌, ◌∙◌, ◌≤◌, ap, subst, sym, ℕ, List, length, arith}
use Rattle.gui_base.specs.declared.Handle.{Handle}
use Rattle.gui_tree.specs.Handles.{numbers}
use Rattle.scene_defs.specs.Shown.{order}
use Rattle.gui_boxes.specs.Listing.{HasThese}
use Rattle.gui_store.specs.Views.{scene_of}
use Rattle.gui_change.specs.Entries.{owners}
use Rattle.gui_change.specs.declared.entries.Entry.{Entry}
use Rattle.gui_change.proofs.Listed.{owners-order}
use Rattle.gui_change.proofs.Orders.{few_shown}
use Rattle.gui_change.proofs.scene_look.SceneLook.open.Goals as goal
use Rattle.gui_change.proofs.scene_look.SceneLook.open.Goals.{After-as_slice, After-as_slice-2}

-- what is shown is listed
shown : (c : After-as_slice) → numbers (owners c.as_slice.result.now) ≡ order (scene_of c.args.store.now)
shown c =
    ap (λ (es : List Entry). numbers (owners es)) c.as_slice.ensures.value
    ∙ owners-order (scene_of c.args.store.now) c.list_entries.new.listed.items c.list_entries.ensures.entries

pub list_owners-requires-clause-room : goal.list_owners-requires-clause-room
list_owners-requires-clause-room c =
    let scene = scene_of c.args.store.now in
    let few = few_shown scene c.tree-tree.ensures.valid (owners c.as_slice.result.now) (shown (goal.at.list_owners-requires-clause-room c).After-as_slice) in
    let room = c.requires.room.room in
    let objects = c.requires.objects in
    omega (arith, few, room, objects)

listed : (c : After-as_slice-2) → numbers c.as_slice-2.result.now ≡ order (scene_of c.args.store.now)
listed c = ap numbers (c.as_slice-2.ensures.value ∙ c.list_owners.ensures.listed) ∙ shown (goal.at.After-as_slice-2 c).After-as_slice

-- as many fit as the scene may have
fit : (c : After-as_slice-2) → c.in-Ok.seen.spare ≡ (scene_of c.args.store.now).limits.objects
fit c = c.in-Ok.ensures.spare ∙ c.requires.objects

pub see_all-requires-clause-order : goal.see_all-requires-clause-order
see_all-requires-clause-order c = listed (goal.at.see_all-requires-clause-order c).After-as_slice-2

pub see_all-requires-clause-few : goal.see_all-requires-clause-few
see_all-requires-clause-few c =
    let d = (goal.at.see_all-requires-clause-few c).After-as_slice-2 in
    let scene = scene_of c.args.store.now in
    let few : length c.as_slice-2.result.now ≤ scene.limits.objects = few_shown scene c.tree-tree.ensures.valid c.as_slice-2.result.now (listed d) in
    subst (λ (n : ℕ). length c.as_slice-2.result.now ≤ n) (sym (fit d)) few

pub returns-clause-shows : goal.returns-clause-shows
returns-clause-shows c =
    let d = (goal.at.returns-clause-shows c).After-as_slice-2 in
    let scene = scene_of c.args.store.now in
    let hs = owners c.list_entries.new.listed.items in
    let objects = c.requires.objects in
    let more = c.in_ok-entries.ensures.room in
    let still = c.list_entries.ensures.capacity in
    let same : c.as_slice-2.result.now ≡ hs = c.as_slice-2.ensures.value ∙ (c.list_owners.ensures.listed ∙ ap owners c.as_slice.ensures.value) in
    record {
      order = owners-order scene c.list_entries.new.listed.items c.list_entries.ensures.entries;
      entries = c.list_entries.ensures.entries;
      table = subst (λ (n : ℕ). HasThese n c.see_all.new.table hs) (fit d) (subst (λ (ks : List Handle). HasThese c.in-Ok.seen.spare c.see_all.new.table ks) same c.see_all.ensures.these);
      seen = c.see_all.ensures.seen;
      entries_room = omega (arith, more, still, objects);
    }

pub returns-clause-room : goal.returns-clause-room
returns-clause-room c =
    let room = c.requires.room.room in
    let same = c.list_owners.ensures.capacity in
    let still = c.clear.ensures.capacity in
    record { empty = c.clear.ensures.items; len = c.clear.ensures.len; room = omega (arith, room, same, still) }
