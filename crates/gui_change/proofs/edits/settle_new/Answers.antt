use Rattle.std.proofs.Common.{◌∙◌, refl}
use Rattle.gui_store.specs.Views.{scene_of}
use Rattle.gui_boxes.specs.Marks.{is_changed, is_marked, is_parent}
use Rattle.gui_layout.specs.SettledBut.{AreSettledButMarks, anyone, in_marked}
use Rattle.gui_layout.proofs.Before.{right_fewer}
use Rattle.gui_change.proofs.Edited.{new-right, new-there, parent-there}
use Rattle.gui_change.proofs.edits.settle_new.Goals as goal
use Rattle.gui_change.proofs.edits.settle_new.Goals.{After-mark_new}

pub mark_new-requires-clause-own : goal.mark_new-requires-clause-own
mark_new-requires-clause-own c = new-there c.args.places.now (scene_of c.args.store.now) c.requires.was.made c.requires.was.concerned c.requires.was.removed c.args.h c.args.parent c.requires.was.edited

pub mark_new-requires-clause-above : goal.mark_new-requires-clause-above
mark_new-requires-clause-above c = parent-there c.args.places.now (scene_of c.args.store.now) c.requires.was.made c.requires.was.concerned c.requires.was.removed c.args.h c.args.parent c.requires.was.edited

right : (c : After-mark_new) → AreSettledButMarks c.args.places.now (scene_of c.args.store.now) (is_changed c.mark_new.new.marks) (is_parent c.mark_new.new.marks)
right c =
    new-right c.args.places.now (scene_of c.args.store.now) c.requires.was.made c.requires.was.concerned c.requires.was.removed c.args.h c.args.parent c.requires.was.edited c.mark_new.new.marks c.mark_new.ensures.own c.mark_new.ensures.parent

pub settle-requires-clause-but : goal.settle-requires-clause-but
settle-requires-clause-but c =
    let scene = scene_of c.args.store.now in
    let marks = c.mark_new.new.marks in
    right_fewer c.args.places.now scene anyone (in_marked (is_marked marks) scene) (is_changed marks) (is_parent marks) (λ k looked. refl) (right (goal.at.settle-requires-clause-but c).After-mark_new).right

pub returns-clause-settles : goal.returns-clause-settles
returns-clause-settles c = record {
  settled = c.settle.ensures.settled (right (goal.at.returns-clause-settles c).After-mark_new);
  limits = c.settle.ensures.limits;
  stays = c.settle.ensures.moved_stays;
  scrolls = λ k there off. record { reach = c.settle.ensures.moved_reaches k there off; offset = c.settle.ensures.moved_offsets k there off };
}

-- the object is listed
pub returns-clause-own : goal.returns-clause-own
returns-clause-own c =
    c.settle.ensures.moved_whole c.args.h.0 (new-there c.args.places.now (scene_of c.args.store.now) c.requires.was.made c.requires.was.concerned c.requires.was.removed c.args.h c.args.parent c.requires.was.edited) c.mark_new.ensures.own

pub returns-clause-none : goal.returns-clause-none
returns-clause-none c = record { none = c.settle.ensures.empty; most = c.settle.ensures.most ∙ (c.mark_new.ensures.most ∙ c.requires.none.most) }
