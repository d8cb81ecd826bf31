use Rattle.std.proofs.Common.{◌∙◌, ap}
use Rattle.scene_defs.specs.Scene.{Scene}
use Rattle.scene_defs.proofs.Changes.{change_keeps_limits}
use Rattle.gui_store.specs.Views.{scene_of}
use Rattle.layout_tests.proofs.places.make.Goals as goal

pub returns-then-is_err : goal.returns-then-is_err
returns-then-is_err c = ap (λ (s : Scene). s.limits) c.apply.ensures.after ∙ change_keeps_limits (scene_of c.args.store.now) c.args.change.now

pub returns : goal.returns
returns c = ap (λ (s : Scene). s.limits) c.apply.ensures.after ∙ change_keeps_limits (scene_of c.args.store.now) c.args.change.now
