use Rattle.std.proofs.Common.{◌≡◌, subst, ap, ℕ, fold, None, arith}
use Rattle.gui_base.specs.Area.{Rect}
use Rattle.gui_base.specs.Corners.{rect_of}
use Rattle.gui_base.specs.Forest.{size, tree_by}
use Rattle.scene_defs.specs.Place.{panel_of}
use Rattle.scene_defs.specs.Scene.{is_at}
use Rattle.cover_defs.specs.Walks.{remembered}
use Rattle.gui_store.specs.Views.{scene_of}
use Rattle.gui_paint.specs.Walking.{number_of, tree_walk}
use Rattle.gui_paint.proofs.Searching.{searches_three}
use Rattle.gui_paint.proofs.Walking.{three_sizes}
use Rattle.gui_paint.proofs.shown.Shown.cover_start.Goals as goal

pub returns-clause-cover : goal.returns-clause-cover
returns-clause-cover g c =
    let scene = scene_of c.args.self.now.store.now in
    let part = rect_of c.args.area in
    let clip = c.panel-clip.ensures in
    searches_three scene part c.active-screen.ensures.valid (number_of c.find_cover.new.search.last) (number_of c.find_cover-2.new.search.last) (number_of c.find_cover-3.new.search.last)
    (subst (λ (h : ℕ). number_of c.find_cover.new.search.last ≡ fold (remembered scene part) None (tree_walk scene (panel_of scene) h)) c.active-screen.ensures.screen
    (subst (λ (r : Rect). number_of c.find_cover.new.search.last ≡ fold (remembered scene part) None (tree_walk scene r c.active-screen.result.0)) clip c.find_cover.ensures.last))
    (subst (λ (r : Rect). number_of c.find_cover-2.new.search.last ≡ fold (remembered scene part) (number_of c.find_cover.new.search.last) (tree_walk scene r 1)) clip c.find_cover-2.ensures.last)
    (subst (λ (r : Rect). number_of c.find_cover-3.new.search.last ≡ fold (remembered scene part) (number_of c.find_cover-2.new.search.last) (tree_walk scene r 2)) clip c.find_cover-3.ensures.last)

pub returns-clause-steps : goal.returns-clause-steps
returns-clause-steps g c =
    let scene = scene_of c.args.self.now.store.now in
    let first = c.find_cover.ensures.steps in
    let second = c.find_cover-2.ensures.steps in
    let third = c.find_cover-3.ensures.steps in
    let same = ap (λ (h : ℕ). size (tree_by (is_at h) scene.trees)) c.active-screen.ensures.screen in
    omega (arith, first, second, third, same, three_sizes scene c.active-screen.ensures.valid)
