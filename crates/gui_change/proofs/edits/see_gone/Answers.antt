use Rattle.std.proofs.Common.{sym, subst, option_map}
use Rattle.gui_store.specs.Views.{removed_of, scene_of}
use Rattle.gui_layout.specs.Solved.{moved_in}
use Rattle.gui_concerns.specs.Handles.{number_of}
use Rattle.gui_concerns.specs.declared.concerned.Concerned.TheVariants.{Nobody}
use Rattle.gui_change.specs.Shifted.{WasShifted}
use Rattle.gui_change.proofs.Left.{all-keep, entries-go, left-shown, removed-once, was-shifted}
use Rattle.gui_change.proofs.edits.see_gone.Goals as goal

pub settle_gone-requires-clause-was : goal.settle_gone-requires-clause-was
settle_gone-requires-clause-was c = record {
  made = c.args.made.now.change.now;
  concerned = c.args.made.now.concerned;
  edited = c.requires.was.edited;
}

pub invariant_of-after-clause-solved : goal.invariant_of-after-clause-solved
invariant_of-after-clause-solved c = c.settle_gone.ensures.settles.settled.solved

pub invariant_of-after-clause-reached : goal.invariant_of-after-clause-reached
invariant_of-after-clause-reached c = c.settle_gone.ensures.settles.settled.reached

pub see_less-requires-clause-table : goal.see_less-requires-clause-table
see_less-requires-clause-table c = c.requires.was.shows.table

pub see_less-requires-clause-once : goal.see_less-requires-clause-once
see_less-requires-clause-once c =
    removed-once c.args.places.now (scene_of c.args.made.now.store.now) c.args.made.now.change.now c.args.made.now.concerned (removed_of c.args.made.now.store.now) c.args.parent c.requires.was.edited

pub see_less-requires-clause-left : goal.see_less-requires-clause-left
see_less-requires-clause-left c =
    left-shown c.args.places.now c.args.look.now (scene_of c.args.made.now.store.now) c.args.made.now.change.now c.args.made.now.concerned (removed_of c.args.made.now.store.now) c.args.parent c.requires.was

pub see_less-requires-clause-entries_room : goal.see_less-requires-clause-entries_room
see_less-requires-clause-entries_room c = c.requires.was.shows.entries_room

pub see_less-requires-clause-goes : goal.see_less-requires-clause-goes
see_less-requires-clause-goes c =
    entries-go c.args.places.now c.args.look.now (scene_of c.args.made.now.store.now) c.args.made.now.change.now c.args.made.now.concerned (removed_of c.args.made.now.store.now) c.args.parent c.requires.was

pub see_less-requires-clause-was : goal.see_less-requires-clause-was
see_less-requires-clause-was c =
    let made = c.args.made.now in
    let scene = scene_of made.store.now in
    let settles = c.settle_gone.ensures.settles in
    let named = option_map number_of made.named in
    subst (WasShifted c.args.look.now.seen scene named Nobody) (sym c.moved.ensures)
    (was-shifted c.args.places.now c.args.look.now scene made.change.now made.concerned (removed_of made.store.now) c.args.parent c.requires.was
    c.settle_gone.new.places (moved_in c.settle_gone.new.places) settles.settled settles.stays settles.scrolls named)

pub see_less-requires-clause-painted : goal.see_less-requires-clause-painted
see_less-requires-clause-painted c =
    all-keep c.args.places.now c.args.look.now (scene_of c.args.made.now.store.now) c.args.made.now.change.now c.args.made.now.concerned (removed_of c.args.made.now.store.now) c.args.parent c.requires.was
