-- The frame law for looks.
use Rattle.std.proofs.Common.{◌≡◌, ◌∙◌, sym, ap, ℕ, Bool, false, Option, List, [], ◌∷◌, refl, arith, inl, inr, ℤ}
use Rattle.std.specs.List.{filter, flat_map}
use Rattle.std.proofs.lemmas.Bool.{false_from_ne_true, both_ways}
use Rattle.std.proofs.lemmas.Bool.Decides.{nat_tests}
use Rattle.scene_defs.specs.Shown.{Entry}
use Rattle.scene_defs.specs.Visible.{holds}
use Rattle.debt_defs.specs.SceneLook.{SceneLook, laid_by}
use Rattle.debt_defs.specs.Frame.{IsInside, named_area, FrameOfLooks}
use Rattle.debt_defs.proofs.Free.{laid-same, named-area-out}

-- a list of lists without those that are empty
flat_map-filter : {A K : Type 0} (f : K → List A) (p : K → Bool) → ((k : K) → p k ≡ false → f k ≡ []) → (ks : List K) → flat_map f ks ≡ flat_map f (filter p ks)
flat_map-filter f p none [] = refl
flat_map-filter f p none (k ∷ ks) = grind (arith, nat_tests, none k, flat_map-filter f p none ks)

flat_map-same : {A K : Type 0} (f g : K → List A) → ((k : K) → f k ≡ g k) → (ks : List K) → flat_map f ks ≡ flat_map g ks
flat_map-same f g same [] = refl
flat_map-same f g same (k ∷ ks) = rw (same k, flat_map-same f g same ks) refl

-- what is seen inside the named object alone is not seen where that is not
inside-lays : {I : Type 0} (look : SceneLook I) (named : Option ℕ) (x y : ℤ) (e : Entry) → IsInside look named e.handle → holds (named_area look named) x y ≡ false → laid_by look x y e ≡ []
inside-lays look named x y e inside out =
    let unseen = false_from_ne_true (holds (look.visible e.handle) x y) (λ seen. both_ways _ out (inside x y seen)) in
    rw unseen refl

abbrev passes : (ℕ → Bool) → Entry → Bool
passes test e = test e.handle

pub frame_of_looks : {I : Type 0} → FrameOfLooks I
frame_of_looks {I} same named before after test x y is becomes lays keeps free =
    flat_map-filter (laid_by after x y) (passes test) (λ e off. sym (each e) ∙ gone e off) after.entries
    ∙ flat_map-same (laid_by after x y) (laid_by before x y) (λ e. sym (each e)) (filter (passes test) after.entries)
    ∙ ap (flat_map (laid_by before x y)) (sym keeps.order)
    ∙ sym (flat_map-filter (laid_by before x y) (passes test) gone before.entries)
  where
    each : (e : Entry) → laid_by before x y e ≡ laid_by after x y e
    each e = laid-same same named before after is becomes x y free lays e

    gone : (e : Entry) → test e.handle ≡ false → laid_by before x y e ≡ []
    gone e off =
        let out = named-area-out same named before after is becomes x y free named refl in
        elim (keeps.others e.handle off) [
          | inl inside ↦ inside-lays before named x y e inside out.0
          | inr inside ↦ each e ∙ inside-lays after named x y e inside out.1
        ]
