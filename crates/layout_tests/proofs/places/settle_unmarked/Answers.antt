use Rattle.gui_store.specs.Views.{scene_of}
use Rattle.gui_boxes.specs.Marks.{is_changed, is_marked, is_parent}
use Rattle.gui_layout.proofs.Before.{right_unmarked}
use Rattle.layout_tests.proofs.places.settle_unmarked.Goals as goal

pub settle-requires-clause-but : goal.settle-requires-clause-but
settle-requires-clause-but c =
    let marks = c.in-Ok.marks in
    right_unmarked c.args.places.now (scene_of c.args.store.now) (is_marked marks) (is_changed marks) (is_parent marks) c.in-Ok.ensures.none
