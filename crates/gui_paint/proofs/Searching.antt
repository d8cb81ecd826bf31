-- Searching for the last object that covers an area.
use Rattle.std.proofs.Common.{◌≡◌, ◌∙◌, sym, ap, ℕ, Option, None, [], ◌∷◌, ◌++◌, fold}
use Rattle.std.proofs.lemmas.List.Sums.{fold-append}
use Rattle.gui_base.specs.Area.{Rect}
use Rattle.gui_base.specs.Forest.{Forest, Tree}
use Rattle.scene_defs.specs.Scene.{Scene}
use Rattle.scene_defs.specs.Place.{panel_of}
use Rattle.scene_defs.specs.Valid.{IsValid}
use Rattle.cover_defs.specs.Cover.{cover}
use Rattle.cover_defs.specs.Walks.{remembered}
use Rattle.cover_defs.proofs.Walks.{remembered_is_last}
use Rattle.gui_paint.specs.Walking.{seen_so, bars_so, tree_walk, below_walk}
use Rattle.gui_paint.proofs.Walking.{trees_walk, three_walks}

-- the first of trees that stand side by side, and then the others
pub searches_first : (scene : Scene) (part clip : Rect) (child : ℕ) (below later left : Forest ℕ) (last mid : Option ℕ) → left ≡ Tree child below later → mid ≡ fold (remembered scene part) last (tree_walk scene clip child) →
    fold (remembered scene part) mid (trees_walk scene clip later) ≡ fold (remembered scene part) last (trees_walk scene clip left)
searches_first scene part clip child below later left last mid is first =
    let step = remembered scene part in
    ap (λ (o : Option ℕ). fold step o (trees_walk scene clip later)) first
    ∙ (sym (fold-append step last (tree_walk scene clip child) (trees_walk scene clip later)) ∙ ap (λ (t : Forest ℕ). fold step last (trees_walk scene clip t)) (sym is))

-- an object and all below it; its bars cover nothing
pub searches_tree : (scene : Scene) (part clip visible : Rect) (h : ℕ) (last mid last_now : Option ℕ) → tree_walk scene clip h ≡ seen_so scene visible h ∷ (below_walk scene visible h ++ bars_so scene visible h ∷ []) →
    mid ≡ remembered scene part last (seen_so scene visible h) → last_now ≡ fold (remembered scene part) mid (below_walk scene visible h) → last_now ≡ fold (remembered scene part) last (tree_walk scene clip h)
searches_tree scene part clip visible h last mid last_now walk own below =
    let step = remembered scene part in
    below
    ∙ (ap (λ (o : Option ℕ). fold step o (below_walk scene visible h)) own
    ∙ (sym (fold-append step last (seen_so scene visible h ∷ below_walk scene visible h) (bars_so scene visible h ∷ [])) ∙ sym (ap (fold step last) walk)))

-- among all that is painted
pub searches_three : (scene : Scene) (part : Rect) (valid : IsValid scene) (a b last : Option ℕ) →
    a ≡ fold (remembered scene part) None (tree_walk scene (panel_of scene) scene.active) → b ≡ fold (remembered scene part) a (tree_walk scene (panel_of scene) 1) →
    last ≡ fold (remembered scene part) b (tree_walk scene (panel_of scene) 2) → last ≡ cover scene part
searches_three scene part valid a b last first second third =
    let walk = tree_walk scene (panel_of scene) in
    let step = fold (remembered scene part) in
    let layers : last ≡ step a (walk 1 ++ walk 2) = third ∙ (ap (λ (o : Option ℕ). step o (walk 2)) second ∙ sym (fold-append (remembered scene part) a (walk 1) (walk 2))) in
    layers
    ∙ (ap (λ (o : Option ℕ). step o (walk 1 ++ walk 2)) first
    ∙ (sym (fold-append (remembered scene part) None (walk scene.active) (walk 1 ++ walk 2))
    ∙ (ap (step None) (three_walks scene valid)
    ∙ remembered_is_last scene part)))
