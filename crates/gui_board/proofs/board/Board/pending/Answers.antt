use Rattle.std.proofs.Common.{◌≤◌, ◌∙◌, ap, subst, sym}
use Rattle.gui_base.proofs.Bounds.{width_at, height_at}
use Rattle.gui_base.specs.Area.{Rect, size_of}
use Rattle.gui_base.specs.Limits.{Bounds}
use Rattle.gui_change.specs.Canvas.{scene_in}
use Rattle.gui_damage.specs.Pending.{IsPending}
use Rattle.scene_defs.specs.Place.{panel_of}
use Rattle.scene_defs.specs.Scene.{Scene}
use Rattle.gui_board.specs.Boards.{pending_of}
use Rattle.gui_board.proofs.Totals.{total_most, few_pixels, small_panel}
use Rattle.gui_board.proofs.board.Board.pending.Goals as goal
use Rattle.gui_board.proofs.board.Board.pending.Goals.{After-areas}

-- the listed areas are those of the panel
sound : (c : After-areas) → IsPending (pending_of c.args.self.now)
sound c = subst (λ (panel : Rect). IsPending (record { panel = panel; areas = c.args.self.now.damage.areas })) c.args.self.now.panel c.areas.ensures.sound.pending

small : (c : After-areas) → size_of (panel_of (scene_in c.args.self.now.canvas)) ≤ 1048576
small c =
    let limits = c.limits-limits.result.now in
    let scene : Scene = scene_in c.args.self.now.canvas in
    let same = sym (c.limits-limits.ensures ∙ ap (λ (s : Scene). s.limits) c.store.ensures.scene) in
    small_panel limits.width limits.height (panel_of scene) limits.panel.most_width limits.panel.most_height
    (width_at scene.limits.width scene.limits.height ∙ ap (λ (b : Bounds). b.width) same) (height_at scene.limits.width scene.limits.height ∙ ap (λ (b : Bounds). b.height) same)

pub pixels_of-requires : goal.pixels_of-requires
pixels_of-requires c = rw c.areas.ensures.areas (few_pixels (pending_of c.args.self.now) (sound c) (small c))

pub returns-clause-most : goal.returns-clause-most
returns-clause-most c = rw (c.pixels_of.ensures, c.areas.ensures.areas) (total_most (pending_of c.args.self.now) (sound (goal.at.returns-clause-most c).After-areas))
