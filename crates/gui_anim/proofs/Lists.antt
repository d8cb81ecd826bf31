-- Filters of the animations that are kept, as a contract sees them.
use Rattle.std.proofs.Common.{◌≡◌, ◌⊎◌, ℕ, ◌+◌, ◌<◌, ◌≤◌, Bool, true, not, ◌||◌, List, [], ◌∷◌, map, length, inl, inr, refl, ap, ◌∙◌, arith}
use Rattle.std.specs.List.{filter, list_any}
use Rattle.std.proofs.lemmas.Bool.{cases_Bool}
use Rattle.gui_base.specs.declared.events.Var.{Var}
use Rattle.play_defs.specs.Animation.{moves, is_moved}
use Rattle.gui_anim.specs.Anims.{Anims, with_stopped}
use Rattle.play_defs.specs.declared.Anim.{Anim}
use Rattle.gui_anim.specs.declared.running.Running.{Running}
use Rattle.gui_anim.specs.Kept.{anim_in, anims_of}

module _ {A B : Type 0} (f : A → B) (test : B → Bool) where
  pub map-filter : (xs : List A) → map f (filter (λ x. test (f x)) xs) ≡ filter test (map f xs)
  map-filter [] = refl
  map-filter (x ∷ xs) =
      elim (cases_Bool (test (f x))) [
        | inl keeps ↦ rw keeps (ap (λ ys. f x ∷ ys) (map-filter xs))
        | inr drops ↦ rw drops (map-filter xs)
      ]

  pub any-map : (xs : List A) → list_any (λ x. test (f x)) xs ≡ list_any test (map f xs)
  any-map [] = refl
  any-map (x ∷ xs) = ap (λ b. test (f x) || b) (any-map xs)

module _ {A : Type 0} (test : A → Bool) where
  pub few_left : (xs : List A) → length (filter (λ x. not (test x)) xs) ≤ length xs
  few_left [] = omega arith
  few_left (x ∷ xs) =
      elim (cases_Bool (test x)) [
        | inl drops ↦ rw drops (omega (arith, few_left xs))
        | inr keeps ↦ rw keeps (omega (arith, few_left xs))
      ]

  pub one_less : (xs : List A) → list_any test xs ≡ true → length (filter (λ x. not (test x)) xs) < length xs
  one_less [] h = cc
  one_less (x ∷ xs) h =
      elim (cases_Bool (test x)) [
        | inl drops ↦ rw drops (omega (arith, few_left xs))
        | inr keeps ↦ rw keeps (omega (arith, one_less xs (rw keeps at h)))
      ]

-- what a contract sees of the animations that pass a test
pub as_seen : (test : Anim → Bool) (size : ℕ) (old new : List Running) → new ≡ filter (λ x. test (anim_in x)) old → anims_of new size ≡ record { running = filter test (map anim_in old); size = size }
as_seen test size old new h =
    ap (λ xs. anims_of xs size) h ∙ ap (λ xs. record { running = xs; size = size }) (map-filter anim_in test old)

-- where one fitted in, or one is dropped, one fits behind the others
pub room_left : (h : ℕ) (var : Var) (old : Anims) (spare : ℕ) → length old.running + spare ≡ old.size → (0 < spare) ⊎ (is_moved h var old.running ≡ true) → length (with_stopped old h var).running < old.size
room_left h var old spare sum (inl some) = omega (arith, few_left (moves h var) old.running)
room_left h var old spare sum (inr moved) = omega (arith, one_less (moves h var) old.running moved)
