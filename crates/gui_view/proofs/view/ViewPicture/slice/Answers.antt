use Rattle.std.proofs.Common.{◌≡◌, subst, drop, map}
use Rattle.gui_base.specs.Area.{Rect}
use Rattle.gui_change.specs.Canvas.{scene_in}
use Rattle.scene_defs.specs.Shown.{entries, seen_entry}
use Rattle.scene_defs.specs.Valid.{IsValid}
use Rattle.scene_defs.proofs.Validity.{valid_is_showable}
use Rattle.cover_defs.specs.Cover.{is_cover, from_last}
use Rattle.cover_defs.proofs.Counts.{steps_most}
use Rattle.gui_view.proofs.FromCover.{shows_from, steps_from}
use Rattle.gui_view.proofs.view.ViewPicture.slice.Goals as goal

pub returns-clause-colors : goal.returns-clause-colors
returns-clause-colors g c =
    let scene = scene_in c.args.self.now.canvas.now in
    let from = subst (λ (part : Rect). map (seen_entry scene) (drop c.first_painted-start.result (entries scene)) ≡ from_last (is_cover scene part) (map (seen_entry scene) (entries scene))) c.area.ensures c.first_painted-start.ensures.from in
    shows_from c.args.buf.now c.paint.new.buf scene _ c.requires from c.paint.ensures.painted

pub returns-clause-late : goal.returns-clause-late
returns-clause-late g c =
    let scene = scene_in c.args.self.now.canvas.now in
    let n = c.first_painted-start.result in
    let from = subst (λ (part : Rect). map (seen_entry scene) (drop n (entries scene)) ≡ from_last (is_cover scene part) (map (seen_entry scene) (entries scene))) c.area.ensures c.first_painted-start.ensures.from in
    steps_from scene c.args.buf.now.area n c.args.steps.now c.first_painted-start.new.steps c.paint.new.steps (valid_is_showable scene (subst IsValid c.store.ensures.scene c.tree-tree.ensures.valid)) c.first_painted-start.ensures.within from c.first_painted-start.ensures.steps c.paint.ensures.steps

pub returns-clause-steps : goal.returns-clause-steps
returns-clause-steps g c =
    let scene = scene_in c.args.self.now.canvas.now in
    let n = c.first_painted-start.result in
    let from = subst (λ (part : Rect). map (seen_entry scene) (drop n (entries scene)) ≡ from_last (is_cover scene part) (map (seen_entry scene) (entries scene))) c.area.ensures c.first_painted-start.ensures.from in
    steps_most scene c.args.buf.now.area c.args.steps.now c.paint.new.steps
    (steps_from scene c.args.buf.now.area n c.args.steps.now c.first_painted-start.new.steps c.paint.new.steps (valid_is_showable scene (subst IsValid c.store.ensures.scene c.tree-tree.ensures.valid)) c.first_painted-start.ensures.within from c.first_painted-start.ensures.steps c.paint.ensures.steps)
