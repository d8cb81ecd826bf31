-- Coats laid one over another.
use Rattle.std.proofs.Common.{◌≡◌, ◌∙◌, refl, sym, ap, subst, ℤ, Bool, true, false, if◌then◌else◌, List, [], ◌∷◌, ◌++◌, fold}
use Rattle.std.proofs.lemmas.List.Sums.{fold_push}
use Rattle.gui_base.specs.declared.color.Rgb565.{Rgb565}
use Rattle.gui_base.specs.Area.{Rect, has}
use Rattle.gui_base.specs.Coats.{Coat}
use Rattle.gui_color.specs.Buffer.{Buffer, pixel_at}
use Rattle.scene_defs.specs.Items.{lay}
use Rattle.gui_paint.specs.Painting.{Paints, painted_coat, painted_coats}

push_if : (seen : Bool) (x y : ℤ) (coats : List Coat) (coat : Coat) (under : Rgb565) →
    (if seen then lay x y (if seen then fold (lay x y) under coats else under) coat else (if seen then fold (lay x y) under coats else under)) ≡ (if seen then fold (lay x y) under (coats ++ coat ∷ []) else under)
push_if true x y coats coat under = sym (fold_push (lay x y) under coats coat)
push_if false x y coats coat under = refl

-- one coat more, over the others
pub paints_more : (old mid new : Buffer) (visible : Rect) (coats : List Coat) (coat : Coat) → Paints old mid (painted_coats visible coats) → Paints mid new (painted_coat visible coat) → Paints old new (painted_coats visible (coats ++ coat ∷ []))
paints_more old mid new visible coats coat h k = record {
  area_stays = k.area_stays ∙ h.area_stays;
  limit_stays = k.limit_stays ∙ h.limit_stays;
  pixels = λ x y i.
      k.pixels x y (subst (λ (area : Rect). has area x y ≡ true) (sym h.area_stays) i)
      ∙ (ap (λ (under : Rgb565). painted_coat visible coat x y under) (h.pixels x y i) ∙ push_if (has visible x y) x y coats coat (pixel_at old x y));
}
