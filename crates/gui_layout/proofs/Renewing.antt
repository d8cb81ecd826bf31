-- Boxes that are made anew.
use Rattle.std.proofs.Common.{◌≡◌, ◌<◌, refl, sym, subst, ℕ, cond, eqb, eq-eqb, inl, inr, List, length, set, get_or}
use Rattle.std.specs.Prelude.{Option, Some, None}
use Rattle.std.proofs.lemmas.Bool.{cases_Bool, eqb-true}
use Rattle.layout_defs.specs.OwnHeights.{but_height}
use Rattle.scene_defs.specs.Scene.{Scene}
use Rattle.gui_boxes.specs.declared.layout_box.LayoutBox.{LayoutBox}
use Rattle.gui_layout.specs.Renewed.{IsRenewed, KeepsRenewed}
use Rattle.gui_layout.specs.Scenes.{scene_box}
use Rattle.gui_boxes.specs.Views.{box_of, box_or}
use Rattle.gui_boxes.proofs.These.{value-set}

module _ (scene : Scene) (old new : List (Option LayoutBox)) (h : ℕ) (made : LayoutBox) (short : h < length old) (set_is : new ≡ set old h (Some made)) (is : but_height (box_of h made) ≡ but_height (scene_box scene h)) where
  value : (k : ℕ) → get_or (set old h (Some made)) k None ≡ cond (eqb h k) (Some made) (get_or old k None)
  value k = value-set old h k (Some made) short

  pub renewed_own : IsRenewed scene new h
  renewed_own =
      subst (λ (bs : List (Option LayoutBox)). IsRenewed scene bs h) (sym set_is)
      (subst (λ (o : Option LayoutBox). but_height (box_or h o) ≡ but_height (scene_box scene h)) (sym (value h)) (rw (eq-eqb h h refl) is))

  pub renewed_kept : KeepsRenewed scene old new
  renewed_kept k was =
      subst (λ (bs : List (Option LayoutBox)). IsRenewed scene bs k) (sym set_is)
      (subst (λ (o : Option LayoutBox). but_height (box_or k o) ≡ but_height (scene_box scene k)) (sym (value k)) (elim (cases_Bool (eqb h k)) [
        | inl same ↦ rw same (subst (λ m. but_height (box_of m made) ≡ but_height (scene_box scene m)) (eqb-true h k same) is)
        | inr differs ↦ rw differs was
      ]))
