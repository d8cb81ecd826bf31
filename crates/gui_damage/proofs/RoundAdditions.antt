-- What a list has after areas of the panel were rounded and added.
use Rattle.std.proofs.Common.{◌≡◌, ◌∙◌, refl, sym, ap, subst, true, false, List, [], ◌∷◌, map}
use Rattle.std.specs.List.{list_all}
use Rattle.gui_base.specs.Area.{Rect, is_empty, common, is_within}
use Rattle.gui_base.specs.Rounding.{Rounding, IsRounding, IsRound}
use Rattle.gui_damage.specs.Adding.{added, added_all, AddsAll}
use Rattle.gui_damage.specs.Pending.{Pending, IsPending}
use Rattle.gui_damage.specs.Rounded.{Rounded, pending_by, pending_in, added_round, added_to, added_all_to}
use Rattle.gui_damage.proofs.Additions.{added_panel, common_within}
use Rattle.gui_damage.proofs.Debts.{adds_all}
use Rattle.gui_damage.proofs.Listed.{within, and_both, and_first, and_second}

-- an area of the panel is added by its rounding
added_inside : (rules : Rounding) (areas : List Rect) (area : Rect) → is_within rules.panel area ≡ true → added_round rules areas area ≡ (added (pending_by rules areas) (rules.round area)).areas
added_inside rules areas area inside =
    let is = common_within rules.panel area inside in
    let some : is_empty (common area rules.panel) ≡ false = subst (λ (r : Rect). is_empty r ≡ false) (sym is) (within rules.panel area inside).some in
    rw some (ap (λ (r : Rect). (added (pending_by rules areas) (rules.round r)).areas) is)

-- the panel stays
still_by : (rules : Rounding) (areas : List Rect) (area : Rect) → pending_by rules (added (pending_by rules areas) area).areas ≡ added (pending_by rules areas) area
still_by rules areas area =
    let p = pending_by rules areas in
    sym (ap (λ (r : Rect). record { panel = r; areas = (added p area).areas }) (added_panel p area))

-- one that is its own rounding is added as it is
pub added_own : (rules : Rounding) (areas : List Rect) (area : Rect) → is_within rules.panel area ≡ true → IsRound rules area → pending_by rules (added_round rules areas area) ≡ added (pending_by rules areas) area
added_own rules areas area inside own =
    ap (pending_by rules) (added_inside rules areas area inside)
    ∙ (still_by rules areas (rules.round area) ∙ ap (λ (r : Rect). added (pending_by rules areas) r) own)

-- what rounds a list stays
pub round_stays : {R : Type 0} (rules : R → Rounding) (areas : List Rect) (list : Rounded R) → (added_all_to rules list areas).round ≡ list.round
round_stays rules [] list = refl
round_stays rules (area ∷ rest) list = round_stays rules rest (added_to rules list area)

module _ {R : Type 0} (rules : R → Rounding) where
  all_rounded : (areas : List Rect) (list : Rounded R) → list_all (is_within (rules list.round).panel) areas ≡ true →
      pending_in rules (added_all_to rules list areas) ≡ added_all (pending_in rules list) (map (rules list.round).round areas)
  all_rounded [] list inside = refl
  all_rounded (area ∷ rest) list inside =
      let r = rules list.round in
      let one : pending_in rules (added_to rules list area) ≡ added (pending_in rules list) (r.round area) =
      ap (pending_by r) (added_inside r list.areas area (and_first _ _ inside)) ∙ still_by r list.areas (r.round area) in
      all_rounded rest (added_to rules list area) (and_second _ _ inside) ∙ ap (λ (p : Pending). added_all p (map r.round rest)) one

roundings_inside : (rules : Rounding) (areas : List Rect) → IsRounding rules → list_all (is_within rules.panel) areas ≡ true → list_all (is_within rules.panel) (map rules.round areas) ≡ true
roundings_inside rules [] is inside = refl
roundings_inside rules (area ∷ rest) is inside = and_both _ _ (is.inside area (and_first _ _ inside)) (roundings_inside rules rest is (and_second _ _ inside))

-- areas of the panel became pending by their roundings
pub adds_roundings : {R : Type 0} (rules : R → Rounding) (areas : List Rect) (list : Rounded R) → IsRounding (rules list.round) → IsPending (pending_in rules list) → list_all (is_within (rules list.round).panel) areas ≡ true →
    AddsAll (pending_in rules list) (pending_in rules (added_all_to rules list areas)) (map (rules list.round).round areas)
adds_roundings rules areas list is h inside =
    let round = (rules list.round).round in
    subst (λ (p : Pending). AddsAll (pending_in rules list) p (map round areas)) (sym (all_rounded rules areas list inside)) (adds_all (map round areas) (pending_in rules list) h (roundings_inside (rules list.round) areas is inside))
