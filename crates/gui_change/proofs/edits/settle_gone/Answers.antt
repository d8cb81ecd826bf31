use Rattle.std.proofs.Common.{◌∙◌, refl}
use Rattle.gui_store.specs.Views.{removed_of, scene_of}
use Rattle.gui_boxes.specs.Marks.{is_changed, is_marked, is_parent}
use Rattle.gui_layout.specs.SettledBut.{AreSettledButMarks, anyone, in_marked}
use Rattle.gui_layout.proofs.Before.{right_fewer}
use Rattle.gui_change.proofs.Edited.{gone-right, removed-few}
use Rattle.gui_change.proofs.edits.settle_gone.Goals as goal
use Rattle.gui_change.proofs.edits.settle_gone.Goals.{After-mark_gone}

pub mark_gone-requires-clause-room : goal.mark_gone-requires-clause-room
mark_gone-requires-clause-room c = removed-few c.args.places.now (scene_of c.args.store.now) c.requires.was.made c.requires.was.concerned (removed_of c.args.store.now) c.args.parent c.requires.was.edited

right : (c : After-mark_gone) → AreSettledButMarks c.args.places.now (scene_of c.args.store.now) (is_changed c.mark_gone.new.marks) (is_parent c.mark_gone.new.marks)
right c =
    gone-right c.args.places.now (scene_of c.args.store.now) c.requires.was.made c.requires.was.concerned (removed_of c.args.store.now) c.args.parent c.requires.was.edited c.mark_gone.new.marks c.mark_gone.ensures.gone c.mark_gone.ensures.parent

pub settle-requires-clause-but : goal.settle-requires-clause-but
settle-requires-clause-but c =
    let scene = scene_of c.args.store.now in
    let marks = c.mark_gone.new.marks in
    right_fewer c.args.places.now scene anyone (in_marked (is_marked marks) scene) (is_changed marks) (is_parent marks) (λ k looked. refl) (right (goal.at.settle-requires-clause-but c).After-mark_gone).right

pub returns-clause-settles : goal.returns-clause-settles
returns-clause-settles c = record {
  settled = c.settle.ensures.settled (right (goal.at.returns-clause-settles c).After-mark_gone);
  limits = c.settle.ensures.limits;
  stays = c.settle.ensures.moved_stays;
  scrolls = λ k there off. record { reach = c.settle.ensures.moved_reaches k there off; offset = c.settle.ensures.moved_offsets k there off };
}

pub returns-clause-none : goal.returns-clause-none
returns-clause-none c = record { none = c.settle.ensures.empty; most = c.settle.ensures.most ∙ (c.mark_gone.ensures.most ∙ c.requires.none.most) }
