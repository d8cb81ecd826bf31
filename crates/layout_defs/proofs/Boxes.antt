-- Solving keeps the trees and their boxes.
use Rattle.std.proofs.Common.{◌≡◌, ◌∙◌, refl, ap, ℕ, List, [], ◌∷◌, map, pos}
use Rattle.gui_base.specs.Forest.{Forest, Empty, Tree, roots, map_forest}
use Rattle.layout_defs.specs.Boxes.{Box}
use Rattle.layout_defs.specs.Solving.{Wide, wide_box, Widened, widened_box, Tall, tall_box, Slot, Placed, with_natural_widths, with_widths, with_natural_heights, with_slots, kid_widths, kid_slots, solved}
use Rattle.layout_defs.specs.Laws.{SolvedKeepsBoxes}

pub boxes_wide : (f : Forest Box) → map_forest wide_box (with_natural_widths f) ≡ f
boxes_wide Empty = refl
boxes_wide (Tree box cs rest) = rw (boxes_wide cs, boxes_wide rest) refl

pub boxes_widened : (ws : List ℕ) (f : Forest Wide) → map_forest widened_box (with_widths ws f) ≡ map_forest wide_box f
boxes_widened ws Empty = refl
boxes_widened [] (Tree wide cs rest) = rw (boxes_widened [] cs, boxes_widened [] rest) refl
boxes_widened (w ∷ ws) (Tree wide cs rest) = rw (boxes_widened (kid_widths wide.box w (roots cs)) cs, boxes_widened ws rest) refl

pub boxes_tall : (f : Forest Widened) → map_forest tall_box (with_natural_heights f) ≡ map_forest widened_box f
boxes_tall Empty = refl
boxes_tall (Tree w cs rest) = rw (boxes_tall cs, boxes_tall rest) refl

pub talls_placed : (slots : List Slot) (f : Forest Tall) → map_forest (λ (p : Placed). p.tall) (with_slots slots f) ≡ f
talls_placed slots Empty = refl
talls_placed [] (Tree tall cs rest) = rw (talls_placed [] cs, talls_placed [] rest) refl
talls_placed (slot ∷ slots) (Tree tall cs rest) = rw (talls_placed (kid_slots tall slot (roots cs)) cs, talls_placed slots rest) refl

pub map-map : {A B C : Type 0} (g : B → C) (h : A → B) (f : Forest A) → map_forest (λ a. g (h a)) f ≡ map_forest g (map_forest h f)
map-map g h Empty = refl
map-map g h (Tree row cs rest) = rw (map-map g h cs, map-map g h rest) refl

module _ (width height : ℕ) (f : Forest Box) where
  -- the widths and natural heights of all objects
  abbrev pub talls : Forest Tall
  talls = let wide = with_natural_widths f in with_natural_heights (with_widths (map (λ _. width) (roots wide)) wide)

  pub boxes_of_talls : map_forest tall_box talls ≡ f
  boxes_of_talls =
      let wide = with_natural_widths f in
      boxes_tall (with_widths (map (λ _. width) (roots wide)) wide) ∙ (boxes_widened (map (λ _. width) (roots wide)) wide ∙ boxes_wide f)

pub solved_keeps_boxes : SolvedKeepsBoxes
solved_keeps_boxes width height f =
    map-map tall_box (λ (p : Placed). p.tall) (solved width height f)
    ∙ (ap (map_forest tall_box) (talls_placed (map (λ _. record { x = pos 0; y = pos 0; height = height }) (roots (talls width height f))) (talls width height f))
    ∙ boxes_of_talls width height f)
