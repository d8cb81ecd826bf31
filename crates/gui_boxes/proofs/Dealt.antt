-- Widths that are dealt child by child.
use Rattle.std.proofs.Common.{◌≡◌, ◌∙◌, sym, ap, ℕ, ◌<◌, List, ◌∷◌, length, get_or, set, map}
use Rattle.std.proofs.lemmas.List.{get_or-set_same, length-set}
use Rattle.gui_base.specs.Forest.{Forest, Tree, roots}
use Rattle.layout_defs.specs.Solving.{Wide, wide_box, dealt, width_in}
use Rattle.layout_defs.specs.Tables.{KeepsOthers}
use Rattle.gui_boxes.specs.Kids.{told_trees}
use Rattle.gui_boxes.specs.Settled.{Layout, known_at, wide_of}
use Rattle.gui_boxes.specs.Views.{box_at}
use Rattle.gui_tree.proofs.Parts.{IsDistinct}
use Rattle.gui_boxes.proofs.Keeps.{keeps_same, keeps_first, keeps_top}

module _ (l : Layout) (room : ℕ) where
  abbrev pub wides : Forest ℕ → List Wide
  wides f = map wide_of (roots (told_trees l f))

  -- the widths of the roots of these trees are dealt
  pub record Deals (old new : List ℕ) (f : Forest ℕ) (shares : List ℕ) : Type 0 where
    pub dealt : map (λ h. get_or new h 0) (roots f) ≡ dealt wide_box (width_in room) (wides f) shares
    pub others : KeepsOthers 0 old new f

  -- the first tree's root, and then the others
  pub deals_first : (a c : List ℕ) (h width : ℕ) (cs rest : Forest ℕ) (kid : Wide) (shares later : List ℕ) → IsDistinct (Tree h cs rest) → h < length a → kid ≡ wide_of (known_at (box_at l.boxes) l h) →
      dealt wide_box (width_in room) (kid ∷ wides rest) shares ≡ width ∷ dealt wide_box (width_in room) (wides rest) later → Deals (set a h width) c rest later → Deals a c (Tree h cs rest) shares
  deals_first a c h width cs rest kid shares later distinct short is_kid is deals =
      let top : get_or c h 0 ≡ width = deals.others.others h distinct.2 ∙ get_or-set_same a h width 0 short in
      record {
        dealt = ap (λ w. w ∷ map (λ k. get_or c k 0) (roots rest)) top ∙ (ap (λ ws. width ∷ ws) deals.dealt ∙ (sym is ∙ ap (λ (k : Wide). dealt wide_box (width_in room) (k ∷ wides rest) shares) is_kid));
        others = keeps_first 0 a (set a h width) c h cs rest (keeps_top 0 a a h cs width (keeps_same 0 a cs) (length-set a h width)) deals.others;
      }
