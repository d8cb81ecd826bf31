use Rattle.std.proofs.Common.{sym, subst, option_map}
use Rattle.gui_store.specs.Views.{removed_of, scene_of}
use Rattle.gui_layout.specs.Solved.{moved_in}
use Rattle.gui_concerns.specs.Handles.{number_of}
use Rattle.gui_concerns.specs.declared.concerned.Concerned.TheVariants.{Nobody}
use Rattle.gui_change.specs.Shifted.{WasShifted}
use Rattle.gui_change.proofs.Transplanting.{listed-same, was-shifted}
use Rattle.gui_change.proofs.edits.see_reparented.Goals as goal

pub settle_reparented-requires-clause-was : goal.settle_reparented-requires-clause-was
settle_reparented-requires-clause-was c = record {
  made = c.args.made.now.change.now;
  concerned = c.args.made.now.concerned;
  removed = removed_of c.args.made.now.store.now;
  edited = c.requires.was.edited;
}

pub invariant_of-after-clause-solved : goal.invariant_of-after-clause-solved
invariant_of-after-clause-solved c = c.settle_reparented.ensures.settles.settled.solved

pub invariant_of-after-clause-reached : goal.invariant_of-after-clause-reached
invariant_of-after-clause-reached c = c.settle_reparented.ensures.settles.settled.reached

pub see_replanted-requires-clause-table : goal.see_replanted-requires-clause-table
see_replanted-requires-clause-table c = c.requires.was.shows.table

pub see_replanted-requires-clause-entries_room : goal.see_replanted-requires-clause-entries_room
see_replanted-requires-clause-entries_room c = c.requires.was.shows.entries_room

pub see_replanted-requires-clause-same : goal.see_replanted-requires-clause-same
see_replanted-requires-clause-same c =
    let made = c.args.made.now in
    listed-same c.args.places.now c.args.look.now (scene_of made.store.now) made.change.now made.concerned (removed_of made.store.now) c.args.h c.args.old c.args.new c.requires.was
    (c.stays_shown.ensures.was c.if-stays_shown.true) (c.stays_shown.ensures.is c.if-stays_shown.true)

pub see_replanted-requires-clause-was : goal.see_replanted-requires-clause-was
see_replanted-requires-clause-was c =
    let made = c.args.made.now in
    let scene = scene_of made.store.now in
    let settles = c.settle_reparented.ensures.settles in
    let named = option_map number_of made.named in
    subst (WasShifted c.args.look.now.seen scene named Nobody) (sym c.moved.ensures)
    (was-shifted c.args.places.now c.args.look.now scene made.change.now made.concerned (removed_of made.store.now) c.args.h c.args.old c.args.new c.requires.was
    c.settle_reparented.new.places (moved_in c.settle_reparented.new.places) settles.settled c.settle_reparented.ensures.below settles.stays settles.scrolls named)

pub renew-requires-clause-table : goal.renew-requires-clause-table
renew-requires-clause-table c = c.requires.was.shows.table

pub renew-requires-clause-entries_room : goal.renew-requires-clause-entries_room
renew-requires-clause-entries_room c = c.requires.was.shows.entries_room
