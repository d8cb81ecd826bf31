-- How many slots of a book are in use after a change.
use Rattle.std.proofs.Common.{◌≡◌, refl, ap, ℕ, ◌+◌, ◌<◌, Bool, true, false, if◌then◌else◌, is_some, List, [], ◌∷◌, length, map, sum_by, inl, inr, arith}
use Rattle.std.specs.Prelude.{slice_set, slice_index_or, nat_lt}
use Rattle.std.specs.List.{list_all}
use Rattle.std.proofs.lemmas.Bool.{cases_Bool}
use Rattle.std.proofs.lemmas.Bool.Decides.{nat_tests}
use Rattle.std.proofs.lemmas.List.Sums.{sum_by-set, sum_by-cons}
use Rattle.style_defs.specs.declared.Setting.{Setting}
use Rattle.style_defs.specs.Book.{inserted, with_settings, settings_count}
use Rattle.style_defs.specs.Cascade.{Style, is_numbered, has_style, settings_of}
use Rattle.style_defs.specs.Firsts.{first_by, put_by, drop_by}
use Rattle.style_defs.specs.InOrder.{comes_before, are_ordered}

module _ {A : Type 0} (test : A → Bool) where
  pub length-put_by : (x : A) (xs : List A) → length (put_by test x xs) ≡ length xs + (if is_some (first_by test xs) then 0 else 1)
  length-put_by x [] = refl
  length-put_by x (y ∷ xs) = elim (cases_Bool (test y)) [
    | inl is ↦ rw is (omega arith)
    | inr isnt ↦ let rest = length-put_by x xs in rw isnt (omega (arith, rest))
  ]

  pub length-drop_by : (xs : List A) → is_some (first_by test xs) ≡ true → length (drop_by test xs) + 1 ≡ length xs
  length-drop_by [] e = cc
  length-drop_by (y ∷ xs) e = elim (cases_Bool (test y)) [
    | inl is ↦ rw is (omega arith)
    | inr isnt ↦ let rest = length-drop_by xs (rw isnt at e) in rw isnt (omega (arith, rest))
  ]

pub length-inserted : (new : Style) (styles : List Style) → length (inserted new styles) ≡ length styles + 1
length-inserted new [] = refl
length-inserted new (style ∷ styles) = elim (cases_Bool (nat_lt new.number style.number)) [
  | inl is ↦ rw is (omega arith)
  | inr isnt ↦ let rest = length-inserted new styles in rw isnt (omega (arith, rest))
]

abbrev total : List Style → ℕ
total styles = sum_by settings_count styles

more : (style : Style) (styles : List Style) → total (style ∷ styles) ≡ length style.settings + total styles
more style styles = sum_by-cons settings_count style styles

pub settings-inserted : (new : Style) (styles : List Style) → total (inserted new styles) ≡ length new.settings + total styles
settings-inserted new [] = more new []
settings-inserted new (style ∷ styles) = elim (cases_Bool (nat_lt new.number style.number)) [
  | inl is ↦ rw is (more new (style ∷ styles))
  | inr isnt ↦ rw isnt (omega (arith, settings-inserted new styles, more style styles, more style (inserted new styles)))
]

-- no style of the number stands behind one that has it
pub none_behind : (number : ℕ) (style : Style) (styles : List Style) → style.number ≡ number → list_all (comes_before style) styles ≡ true → is_some (first_by (is_numbered number) styles) ≡ false
none_behind number style [] is before = refl
none_behind number style (other ∷ styles) is before =
    let rest = none_behind number style styles is in grind (arith, nat_tests, before, is, rest)

module _ (number : ℕ) (f : List Setting → List Setting) where
  -- where there is no such style nothing changes
  pub settings-unchanged : (styles : List Style) → has_style styles number ≡ false → map (with_settings number f) styles ≡ styles
  settings-unchanged [] none = refl
  settings-unchanged (style ∷ styles) none = elim (cases_Bool (is_numbered number style)) [
    | inl is ↦ let no = rw is at none in cc
    | inr isnt ↦ rw isnt (ap (λ (rest : List Style). style ∷ rest) (settings-unchanged styles (rw isnt at none)))
  ]

  pub settings-changed : (styles : List Style) → are_ordered styles ≡ true → has_style styles number ≡ true →
      total (map (with_settings number f) styles) + length (settings_of styles number) ≡ total styles + length (f (settings_of styles number))
  settings-changed [] ordered there = cc
  settings-changed (style ∷ styles) ordered there = elim (cases_Bool (is_numbered number style)) [
    | inl is ↦
        let none : has_style styles number ≡ false = none_behind number style styles (grind (arith, nat_tests, is)) (grind (arith, nat_tests, ordered)) in
        rw (is, settings-unchanged styles none) (omega (arith, more style styles, more (record { number = style.number; settings = f style.settings }) styles))
    | inr isnt ↦
        let rest = settings-changed styles (grind (arith, nat_tests, ordered)) (rw isnt at there) in
        rw isnt (omega (arith, rest, more style styles, more style (map (with_settings number f) styles)))
  ]

-- another list at a place
pub lengths-set : {A : Type 0} (lists : List (List A)) (h : ℕ) (xs : List A) → h < length lists → sum_by length (slice_set lists h xs) + length (slice_index_or lists h []) ≡ sum_by length lists + length xs
lengths-set lists h xs within = sum_by-set length lists h xs [] within
