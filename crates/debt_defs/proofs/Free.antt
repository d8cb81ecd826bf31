-- What is laid on a pixel that the debt does not hold.
use Rattle.std.proofs.Common.{◌≡◌, ◌∙◌, sym, ap, ℕ, Bool, true, false, eqb, ◌||◌, ◌++◌, Option, Some, None, List, [], ◌∷◌, refl, arith, inl, inr, eq-eqb, ℤ}
use Rattle.std.specs.Prelude.{not, if◌then◌else◌}
use Rattle.std.specs.List.{filter, flat_map}
use Rattle.std.proofs.lemmas.Bool.{cases_Bool, or_parts, or_left, or_right, not-false}
use Rattle.std.proofs.lemmas.Bool.Decides.{nat_tests, eqb_tells}
use Rattle.std.proofs.lemmas.List.Folds.{list_any-append}
use Rattle.gui_base.specs.Area.{Rect, has}
use Rattle.scene_defs.specs.Shown.{Entry}
use Rattle.scene_defs.specs.Visible.{holds}
use Rattle.debt_defs.specs.SceneLook.{SceneLook, is_among, IsSceneLook, laid_by}
use Rattle.debt_defs.specs.Same.{same_visible}
use Rattle.debt_defs.specs.Debt.{listed, owed_by, shown_in_either, is_named, is_touched, touched, touched_areas}
use Rattle.debt_defs.specs.Frame.{covered, named_area, LaySame}
use Rattle.debt_defs.proofs.Samenesses.{visible-is}

covered-append : (a b : List Rect) (x y : ℤ) → covered (a ++ b) x y ≡ false → (covered a x y ≡ false) × (covered b x y ≡ false)
covered-append a b x y free = or_parts _ _ (sym (list_any-append (λ area. has area x y) a b) ∙ free)

-- what one of the objects owes
free-one : (owes : ℕ → List Rect) (hs : List ℕ) (k : ℕ) (x y : ℤ) → is_among hs k ≡ true → covered (flat_map owes hs) x y ≡ false → covered (owes k) x y ≡ false
free-one owes [] k x y among free = cc
free-one owes (h ∷ hs) k x y among free =
    let parts = covered-append (owes h) (flat_map owes hs) x y free in
    elim (eqb_tells h k) [
      | inl is ↦ ap (λ j. covered (owes j) x y) (sym is.1) ∙ parts.0
      | inr isnt ↦ free-one owes hs k x y (rw isnt.0 at among) parts.1
    ]

free-listed : (area : Option Rect) (x y : ℤ) → covered (listed area) x y ≡ false → holds area x y ≡ false
free-listed None x y free = refl
free-listed (Some area) x y free = (or_parts _ _ free).0

-- where both areas are owed, the pixel is in neither
outside-both : (old new : Option Rect) (x y : ℤ) → covered (listed old ++ (if same_visible old new then [] else listed new)) x y ≡ false →
    (holds old x y ≡ false) × (holds new x y ≡ false)
outside-both old new x y free =
    let parts = covered-append (listed old) (if same_visible old new then [] else listed new) x y free in
    let out = free-listed old x y parts.0 in
    elim (cases_Bool (same_visible old new)) [
      | inl same ↦ (out, ap (λ area. holds area x y) (sym (visible-is old new same)) ∙ out)
      | inr other ↦ (out, free-listed new x y (rw other at parts.1))
    ]

among-filter : (p : ℕ → Bool) (hs : List ℕ) (k : ℕ) → p k ≡ true → is_among hs k ≡ true → is_among (filter p hs) k ≡ true
among-filter p [] k passes among = among
among-filter p (h ∷ hs) k passes among = grind (arith, nat_tests, among-filter p hs k passes)

module _ {I : Type 0} (before after : SceneLook I) where
  among-either : (k : ℕ) → (is_among before.order k || is_among after.order k) ≡ true → is_among (shown_in_either before after) k ≡ true
  among-either k there =
      let gone : ℕ → Bool = λ h. not (is_among after.order h) in
      list_any-append (λ j. eqb j k) after.order (filter gone before.order)
      ∙ elim (cases_Bool (is_among after.order k)) [
        | inl still ↦ or_left _ _ still
        | inr left ↦
            let was : is_among before.order k ≡ true = grind (arith, nat_tests) in
            or_right _ _ (among-filter gone before.order k (rw left refl) was)
      ]

module _ {I : Type 0} (same : I → I → Bool) (named : Option ℕ) (before after : SceneLook I) (is : IsSceneLook before) (becomes : IsSceneLook after) (x y : ℤ)
    (free : covered (touched_areas same named before after) x y ≡ false) where
  -- a touched object is not seen there
  touched-out : (k : ℕ) → is_touched same named before after k ≡ true → (holds (before.visible k) x y ≡ false) × (holds (after.visible k) x y ≡ false)
  touched-out k touches = elim (cases_Bool (is_among before.order k || is_among after.order k)) [
    | inl shown ↦
        let among = among-filter (is_touched same named before after) (shown_in_either before after) k touches (among-either before after k shown) in
        outside-both (before.visible k) (after.visible k) x y (free-one (owed_by before after) (touched same named before after) k x y among free)
    | inr neither ↦
        let out = or_parts _ _ neither in
        (rw (is k out.0) refl, rw (becomes k out.1) refl)
  ]

  pub named-out : (h : ℕ) → named ≡ Some h → (holds (before.visible h) x y ≡ false) × (holds (after.visible h) x y ≡ false)
  named-out h e =
      let names : is_named named h ≡ true = ap (λ n. is_named n h) e ∙ eq-eqb h h refl in
      touched-out h (or_left _ _ names)

  pub named-area-out : (n : Option ℕ) → named ≡ n → (holds (named_area before n) x y ≡ false) × (holds (named_area after n) x y ≡ false)
  named-area-out None e = (refl, refl)
  named-area-out (Some h) e = named-out h e

  -- each entry lays the same
  pub laid-same : LaySame same named before after → (e : Entry) → laid_by before x y e ≡ laid_by after x y e
  laid-same lays e = elim (cases_Bool (is_touched same named before after e.handle)) [
    | inl touches ↦ let out = touched-out e.handle touches in rw (out.0, out.1) refl
    | inr untouched ↦
        let p = or_parts _ _ untouched in
        let q = or_parts _ _ p.1 in
        let r = or_parts _ _ q.1 in
        let seen = visible-is (before.visible e.handle) (after.visible e.handle) (not-false _ q.0) in
        let laid = lays e x y p.0 (not-false _ r.0) (not-false _ r.1) in
        rw (seen, laid) refl
  ]
