use Rattle.std.proofs.Common.{◌≡◌, ◌≤◌, ◌+◌, ◌∙◌, ap, ℕ, Option}
use Rattle.gui_base.specs.Area.{Rect}
use Rattle.scene_defs.specs.Shown.{painted}
use Rattle.scene_defs.proofs.Validity.{valid_is_showable}
use Rattle.cover_defs.specs.Cover.{cover, uncovered}
use Rattle.cover_defs.specs.Steps.{slice_steps}
use Rattle.cover_defs.specs.Walks.{from_handle}
use Rattle.cover_defs.proofs.Counts.{steps_most}
use Rattle.cover_defs.proofs.Walks.{waited_is_uncovered}
use Rattle.gui_store.specs.Views.{scene_of}
use Rattle.gui_paint.specs.Walking.{number_of}
use Rattle.gui_paint.proofs.Waiting.{shows_uncovered, slice_from}
use Rattle.gui_paint.proofs.paint.ShownPicture.slice.Given.{Over}
use Rattle.gui_paint.proofs.paint.ShownPicture.slice.Goals as goal
use Rattle.gui_paint.proofs.paint.ShownPicture.slice.Goals.{After-paint}

-- what is painted is all from the cover on
from : (g : Over) (c : After-paint g) → from_handle (number_of c.cover_start-start.result) (painted (scene_of c.args.self.now.store.now)) ≡ uncovered (scene_of c.args.self.now.store.now) c.args.buf.now.area
from g c =
    let scene = scene_of c.args.self.now.store.now in
    ap (λ (o : Option ℕ). from_handle o (painted scene)) c.cover_start-start.ensures.cover
    ∙ (ap (λ (part : Rect). from_handle (cover scene part) (painted scene)) c.area.ensures ∙ waited_is_uncovered scene c.args.buf.now.area (valid_is_showable scene c.tree-tree.ensures.valid))

late : (g : Over) (c : After-paint g) → c.paint.new.steps ≤ c.args.steps.now + slice_steps (scene_of c.args.self.now.store.now) c.args.buf.now.area
late g c =
    let scene = scene_of c.args.self.now.store.now in
    slice_from scene c.args.buf.now.area (valid_is_showable scene c.tree-tree.ensures.valid) _ c.args.steps.now c.cover_start-start.new.steps c.paint.new.steps (from g c) c.cover_start-start.ensures.steps c.paint.ensures.steps

pub returns-clause-colors : goal.returns-clause-colors
returns-clause-colors g c = shows_uncovered c.args.buf.now c.paint.new.buf (scene_of c.args.self.now.store.now) _ c.requires (from g c) c.paint.ensures.painted

pub returns-clause-late : goal.returns-clause-late
returns-clause-late g c = late g c

pub returns-clause-steps : goal.returns-clause-steps
returns-clause-steps g c =
    steps_most (scene_of c.args.self.now.store.now) c.args.buf.now.area c.args.steps.now c.paint.new.steps (late g c)
