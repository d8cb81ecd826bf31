use Rattle.std.proofs.Common.{refl}
use Rattle.gui_boxes.specs.Marks.{is_changed, is_marked, is_parent}
use Rattle.gui_layout.proofs.Before.{right_fewer, right_marked, right_unmarked, settled_but_marks}
use Rattle.gui_layout.specs.SettledBut.{anyone, in_marked}
use Rattle.gui_store.specs.Views.{scene_of}
use Rattle.gui_layout.proofs.laws.marked_trees_may_be_settled.Goals as goal

pub returns : goal.returns
returns c = record {
  differing = λ p store marks was. right_marked p (scene_of store) (is_marked marks) (is_changed marks) (is_parent marks) store.kept.valid.trees.once was;
  settled = λ p store marks were.
      let scene = scene_of store in
      let but = settled_but_marks p were.before scene (is_changed marks) (is_parent marks) were.settled were.once store.kept.valid.trees.once were.limits were.each in
      right_fewer p scene anyone (in_marked (is_marked marks) scene) (is_changed marks) (is_parent marks) (λ k looked. refl) but.right;
  unmarked = λ p scene marks none. right_unmarked p scene (is_marked marks) (is_changed marks) (is_parent marks) none;
}
