use Rattle.std.proofs.Common.{◌∙◌, refl}
use Rattle.gui_store.specs.Views.{scene_of}
use Rattle.gui_boxes.specs.Marks.{is_changed, is_marked, is_parent}
use Rattle.gui_layout.specs.SettledBut.{AreSettledButMarks, anyone, in_marked}
use Rattle.gui_layout.proofs.Before.{right_fewer}
use Rattle.gui_change.proofs.Edited.{new-parent-there, old-parent-there, reparented-right}
use Rattle.gui_change.proofs.edits.settle_reparented.Goals as goal
use Rattle.gui_change.proofs.edits.settle_reparented.Goals.{After-mark_reparented}

pub mark_reparented-requires-clause-old : goal.mark_reparented-requires-clause-old
mark_reparented-requires-clause-old c =
    old-parent-there c.args.places.now (scene_of c.args.store.now) c.requires.was.made c.requires.was.concerned c.requires.was.removed c.args.h c.args.old c.args.new c.requires.was.edited

pub mark_reparented-requires-clause-new : goal.mark_reparented-requires-clause-new
mark_reparented-requires-clause-new c =
    new-parent-there c.args.places.now (scene_of c.args.store.now) c.requires.was.made c.requires.was.concerned c.requires.was.removed c.args.h c.args.old c.args.new c.requires.was.edited

right : (c : After-mark_reparented) → AreSettledButMarks c.args.places.now (scene_of c.args.store.now) (is_changed c.mark_reparented.new.marks) (is_parent c.mark_reparented.new.marks)
right c =
    let told = c.mark_reparented.ensures in
    reparented-right c.args.places.now (scene_of c.args.store.now) c.requires.was.made c.requires.was.concerned c.requires.was.removed c.args.h c.args.old c.args.new c.requires.was.edited c.mark_reparented.new.marks told.below told.old told.new

pub settle-requires-clause-but : goal.settle-requires-clause-but
settle-requires-clause-but c =
    let scene = scene_of c.args.store.now in
    let marks = c.mark_reparented.new.marks in
    right_fewer c.args.places.now scene anyone (in_marked (is_marked marks) scene) (is_changed marks) (is_parent marks) (λ k looked. refl) (right (goal.at.settle-requires-clause-but c).After-mark_reparented).right

pub returns-clause-settles : goal.returns-clause-settles
returns-clause-settles c = record {
  settled = c.settle.ensures.settled (right (goal.at.returns-clause-settles c).After-mark_reparented);
  limits = c.settle.ensures.limits;
  stays = c.settle.ensures.moved_stays;
  scrolls = λ k there off. record { reach = c.settle.ensures.moved_reaches k there off; offset = c.settle.ensures.moved_offsets k there off };
}

pub returns-clause-below : goal.returns-clause-below
returns-clause-below c k there inside = c.settle.ensures.moved_whole k there (c.mark_reparented.ensures.below k ∙ inside)

pub returns-clause-none : goal.returns-clause-none
returns-clause-none c = record { none = c.settle.ensures.empty; most = c.settle.ensures.most ∙ (c.mark_reparented.ensures.most ∙ c.requires.none.most) }
