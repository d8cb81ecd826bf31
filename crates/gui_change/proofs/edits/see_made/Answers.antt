use Rattle.std.proofs.Common.{sym, subst, option_map}
use Rattle.gui_store.specs.Views.{removed_of, scene_of}
use Rattle.gui_layout.specs.Solved.{moved_in}
use Rattle.gui_concerns.specs.Handles.{number_of}
use Rattle.gui_concerns.specs.declared.concerned.Concerned.TheVariants.{Nobody}
use Rattle.gui_change.specs.Shifted.{WasJoined}
use Rattle.gui_change.proofs.Arrived.{all-keep, entries-come, entries-room, still, was-joined}
use Rattle.gui_change.proofs.edits.see_made.Goals as goal

pub settle_new-requires-clause-was : goal.settle_new-requires-clause-was
settle_new-requires-clause-was c = record {
  made = c.args.made.now.change.now;
  concerned = c.args.made.now.concerned;
  removed = removed_of c.args.made.now.store.now;
  edited = c.requires.was.edited;
}

pub invariant_of-after-clause-solved : goal.invariant_of-after-clause-solved
invariant_of-after-clause-solved c = c.settle_new.ensures.settles.settled.solved

pub invariant_of-after-clause-reached : goal.invariant_of-after-clause-reached
invariant_of-after-clause-reached c = c.settle_new.ensures.settles.settled.reached

pub see_more-requires-clause-table : goal.see_more-requires-clause-table
see_more-requires-clause-table c = c.requires.was.shows.table

pub see_more-requires-clause-still : goal.see_more-requires-clause-still
see_more-requires-clause-still c =
    still c.args.places.now c.args.look.now (scene_of c.args.made.now.store.now) c.args.made.now.change.now c.args.made.now.concerned (removed_of c.args.made.now.store.now) c.args.h c.args.parent c.requires.was

pub see_more-requires-clause-entries_room : goal.see_more-requires-clause-entries_room
see_more-requires-clause-entries_room c = c.requires.was.shows.entries_room

pub see_more-requires-clause-was : goal.see_more-requires-clause-was
see_more-requires-clause-was c =
    let made = c.args.made.now in
    let scene = scene_of made.store.now in
    let settles = c.settle_new.ensures.settles in
    let named = option_map number_of made.named in
    subst (WasJoined c.args.look.now.seen scene named Nobody) (sym c.moved.ensures)
    (was-joined c.args.places.now c.args.look.now scene made.change.now made.concerned (removed_of made.store.now) c.args.h c.args.parent c.requires.was
    c.settle_new.new.places (moved_in c.settle_new.new.places) settles.settled c.settle_new.ensures.own settles.stays settles.scrolls named)

pub see_more-requires-clause-painted : goal.see_more-requires-clause-painted
see_more-requires-clause-painted c =
    all-keep c.args.places.now c.args.look.now (scene_of c.args.made.now.store.now) c.args.made.now.change.now c.args.made.now.concerned (removed_of c.args.made.now.store.now) c.args.h c.args.parent c.requires.was

pub see_more-requires-clause-comes : goal.see_more-requires-clause-comes
see_more-requires-clause-comes c = entries-come c.args.places.now c.args.look.now (scene_of c.args.made.now.store.now) c.args.made.now.change.now c.args.made.now.concerned (removed_of c.args.made.now.store.now) c.args.h c.args.parent c.requires.was

pub see_more-requires-clause-more : goal.see_more-requires-clause-more
see_more-requires-clause-more c = entries-room c.args.places.now c.args.look.now (scene_of c.args.made.now.store.now) c.args.made.now.change.now c.args.made.now.concerned (removed_of c.args.made.now.store.now) c.args.h c.args.parent c.requires.was
