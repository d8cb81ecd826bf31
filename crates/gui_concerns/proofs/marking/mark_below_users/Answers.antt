use Rattle.std.proofs.Common.{ap, refl, Bool, ◌||◌}
use Rattle.gui_store.specs.Views.{scene_of}
use Rattle.gui_boxes.specs.Marks.{is_changed}
use Rattle.gui_concerns.proofs.Marked.{in-users}
use Rattle.gui_concerns.proofs.marking.mark_below_users.Goals as goal

pub loop-user-init : goal.loop-user-init
loop-user-init c = record {
  room = c.requires.room;
  changed = λ k. ap (λ (b : Bool). is_changed c.args.marks.now k || b) (in-users (scene_of c.args.store.now) c.tree-tree.ensures.valid k c.users-users.result c.args.style c.users-users.ensures.these);
  parents = λ k is. is;
  most = refl;
}
