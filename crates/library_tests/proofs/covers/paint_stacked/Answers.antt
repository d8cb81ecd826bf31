use Rattle.std.proofs.Common.{◌≡◌, ◌≤◌, ◌+◌, ◌*◌, ◌∙◌, ap, subst, ℕ, pos, arith}
use Rattle.gui_base.specs.Area.{Rect, area_at, size_of}
use Rattle.cover_defs.specs.Cover.{late}
use Rattle.cover_defs.specs.Steps.{letter_count, object_count, slice_extra, slice_steps}
use Rattle.scene_defs.specs.Scene.{Scene}
use Rattle.gui_store.specs.Views.{scene_of}
use Rattle.library_tests.proofs.covers.paint_stacked.Goals as goal

pub returns : goal.returns
returns g c =
    let scene = scene_of c.args.shown.now.store.now in
    let worked = c.worked_examples.ensures.steps in
    let here : c.begin.new.self.area ≡ area_at (pos 0) (pos 0) 16 16 = c.begin.ensures.area ∙ c.at.ensures in
    let slice = subst (λ (part : Rect). c.slice.new.steps ≤ c.begin.new.steps + slice_steps scene part) here c.slice.ensures.late in
    let begun : c.begin.new.steps ≡ c.args.steps.now + 256 = c.begin.ensures.steps ∙ ap (λ (part : Rect). c.args.steps.now + size_of part) c.at.ensures in
    let six : late scene (area_at (pos 0) (pos 0) 16 16) ≡ 6 = ap (λ (s : Scene). late s (area_at (pos 0) (pos 0) 16 16)) c.requires.scene ∙ worked.late in
    let pixels : size_of (area_at (pos 0) (pos 0) 16 16) * late scene (area_at (pos 0) (pos 0) 16 16) ≡ 1536 = ap (λ (n : ℕ). size_of (area_at (pos 0) (pos 0) 16 16) * n) six in
    let objects : object_count scene ≡ 13 = ap object_count c.requires.scene ∙ worked.objects in
    let letters : letter_count scene ≡ 0 = ap letter_count c.requires.scene ∙ worked.letters in
    let few : c.slice.new.steps ≤ c.begin.new.steps + (1536 + slice_extra scene) = omega (arith, slice, pixels) in
    omega (arith, few, begun, objects, letters)
