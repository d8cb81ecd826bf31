-- Areas that are rounded stay in the panel, and hold what they held.
use Rattle.std.proofs.Common.{◌≡◌, refl, true, false, List, [], ◌∷◌, map, ℤ}
use Rattle.std.specs.List.{list_all, AllByRecursion}
use Rattle.std.proofs.lemmas.Bool.{and_from, and_parts, or_parts, both_ways, false_from_ne_true}
use Rattle.gui_base.specs.Area.{Rect, has, is_within}
use Rattle.gui_base.specs.Rounding.{Rounding, IsRounding, IsRound}
use Rattle.gui_base.proofs.Areas.{Covers-around, around_corners}
use Rattle.debt_defs.specs.Frame.{covered}

module _ (rules : Rounding) (is : IsRounding rules) where
  pub rounded_within : (areas : List Rect) → list_all (is_within rules.panel) areas ≡ true → list_all (is_within rules.panel) (map rules.round areas) ≡ true
  rounded_within [] inside = refl
  rounded_within (area ∷ rest) inside =
      let p = and_parts _ _ inside in and_from _ _ (is.inside area p.0) (rounded_within rest p.1)

  pub rounded_round : (areas : List Rect) → list_all (is_within rules.panel) areas ≡ true → AllByRecursion (IsRound rules) (map rules.round areas)
  rounded_round [] inside = tt
  rounded_round (area ∷ rest) inside = let p = and_parts _ _ inside in (is.again area p.0, rounded_round rest p.1)

  rounded_has : (area : Rect) (x y : ℤ) → is_within rules.panel area ≡ true → has area x y ≡ true → has (rules.round area) x y ≡ true
  rounded_has area x y inside there = Covers-around (rules.round area) area (around_corners _ _ (is.holds area inside)) x y there

  -- a pixel that no rounding has is in none of the areas
  pub free_of_rounded : (areas : List Rect) (x y : ℤ) → list_all (is_within rules.panel) areas ≡ true → covered (map rules.round areas) x y ≡ false → covered areas x y ≡ false
  free_of_rounded [] x y inside out = refl
  free_of_rounded (area ∷ rest) x y inside out =
      let p = and_parts _ _ inside in
      let o : (has (rules.round area) x y ≡ false) × (covered (map rules.round rest) x y ≡ false) = or_parts _ _ out in
      let here : has area x y ≡ false = false_from_ne_true (has area x y) (λ there. both_ways _ o.0 (rounded_has area x y p.0 there)) in
      rw here (free_of_rounded rest x y p.1 o.1)
