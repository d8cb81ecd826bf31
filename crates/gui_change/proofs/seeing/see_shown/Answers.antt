use Rattle.std.proofs.Common.{◌≡◌, ◌∙◌, sym, ap, refl, None, is_some, arith}
use Rattle.gui_base.proofs.Visits.{count-has}
use Rattle.gui_boxes.proofs.These.{has-times, times_is}
use Rattle.gui_store.specs.Views.{scene_of}
use Rattle.gui_tree.specs.Handles.{numbers}
use Rattle.scene_defs.specs.Scene.{handles_of}
use Rattle.scene_defs.specs.Shown.{order}
use Rattle.scene_defs.specs.Visible.{shown_trees}
use Rattle.gui_change.specs.Entries.{owners}
use Rattle.gui_change.proofs.Orders.{few_shown, shown_listed, shown_proper}
use Rattle.gui_change.proofs.SeenAgain.{known-still, listed-again, shown-has}
use Rattle.gui_change.proofs.seeing.see_shown.Goals as goal
use Rattle.gui_change.proofs.seeing.see_shown.Goals.{After-as_slice}

pub list_owners-requires-clause-room : goal.list_owners-requires-clause-room
list_owners-requires-clause-room c =
    let scene = scene_of c.args.after.now.store.now in
    let few = few_shown scene c.tree-tree.ensures.valid (owners c.args.painted.now) c.requires.order in
    let room = c.requires.room.room in
    omega (arith, few, room)

-- what is shown is listed
listed : (c : After-as_slice) → numbers c.as_slice.result.now ≡ order (scene_of c.args.after.now.store.now)
listed c = ap numbers (c.as_slice.ensures.value ∙ c.list_owners.ensures.listed) ∙ c.requires.order

pub see_all_again-requires-clause-there : goal.see_all_again-requires-clause-there
see_all_again-requires-clause-there c =
    let d = (goal.at.see_all_again-requires-clause-there c).After-as_slice in
    shown_listed (scene_of c.args.after.now.store.now) c.tree-tree.ensures.valid c.as_slice.result.now (listed d)

pub see_all_again-requires-clause-once : goal.see_all_again-requires-clause-once
see_all_again-requires-clause-once c =
    let d = (goal.at.see_all_again-requires-clause-once c).After-as_slice in
    (shown_proper (scene_of c.args.after.now.store.now) c.tree-tree.ensures.valid c.as_slice.result.now (listed d)).once

pub see_all_again-requires-clause-some : goal.see_all_again-requires-clause-some
see_all_again-requires-clause-some c k some =
    let d = (goal.at.see_all_again-requires-clause-some c).After-as_slice in
    let scene = scene_of c.args.after.now.store.now in
    shown-has scene c.args.table.now c.requires.shown k ∙ has-times c.as_slice.result.now (handles_of (shown_trees scene)) (listed d) k some

pub returns-clause-sees : goal.returns-clause-sees
returns-clause-sees c =
    let d = (goal.at.returns-clause-sees c).After-as_slice in
    let scene = scene_of c.args.after.now.store.now in
    let valid = c.tree-tree.ensures.valid in
    let hs = c.as_slice.result.now in
    listed-again scene valid None c.args.table.now c.see_all_again.new.table hs c.requires.shown
    (λ k some. shown-has scene c.args.table.now c.requires.shown k ∙ has-times hs (handles_of (shown_trees scene)) (listed d) k some)
    (shown_proper scene valid hs (listed d)).once (λ k off. refl)
    c.see_all_again.ensures.listing c.see_all_again.ensures.seen c.see_all_again.ensures.rest c.args.damage.now c.see_all_again.new.damage c.see_all_again.ensures.debt

pub returns-clause-all : goal.returns-clause-all
returns-clause-all c k s found =
    let d = (goal.at.returns-clause-all c).After-as_slice in
    let scene = scene_of c.args.after.now.store.now in
    let hs = c.as_slice.result.now in
    let known = sym (known-still c.args.table.now c.see_all_again.new.table c.see_all_again.ensures.listing k) ∙ ap is_some found in
    let here = sym (shown-has scene c.args.table.now c.requires.shown k) ∙ known in
    let some = count-has (handles_of (shown_trees scene)) k here in
    let is = times_is hs (handles_of (shown_trees scene)) (listed d) k in
    c.see_all_again.ensures.seen k s (omega (arith, some, is)) found

pub returns-clause-room : goal.returns-clause-room
returns-clause-room c =
    let room = c.requires.room.room in
    let same = c.list_owners.ensures.capacity in
    let still = c.clear.ensures.capacity in
    record { empty = c.clear.ensures.items; len = c.clear.ensures.len; room = omega (arith, room, same, still) }
