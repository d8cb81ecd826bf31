-- A book stays in order.
use Rattle.std.proofs.Common.{◌≡◌, ◌∙◌, refl, ℕ, Bool, true, false, List, [], ◌∷◌, map, inl, inr, arith, length-set}
use Rattle.std.specs.Prelude.{nat_lt, slice_set, if◌then◌else◌}
use Rattle.std.specs.List.{All, list_all}
use Rattle.std.proofs.lemmas.Bool.{cases_Bool}
use Rattle.std.proofs.lemmas.Bool.Decides.{nat_tests}
use Rattle.std.proofs.lemmas.List.Elements.{All-nil, All-cons, All-head, All-tail, All-set, All-map, All-weaker}
use Rattle.style_defs.specs.declared.Entry.{Entry}
use Rattle.style_defs.specs.declared.Setting.{Setting}
use Rattle.style_defs.specs.declared.Use.{Use}
use Rattle.style_defs.specs.Book.{Book, inserted, with_settings}
use Rattle.style_defs.specs.Cascade.{Style, is_numbered, has_style}
use Rattle.style_defs.specs.Firsts.{put_by, drop_by}
use Rattle.style_defs.specs.InOrder.{IsBook, IsSetting, IsEntry, IsStyle, IsUsed, comes_before, are_ordered}

module _ {A : Type 0} (P : A → Type 0) (test : A → Bool) where
  pub All-put_by : (x : A) (xs : List A) → P x → All P xs → All P (put_by test x xs)
  All-put_by x [] p all = All-cons P x [] p (All-nil P)
  All-put_by x (y ∷ xs) p all = elim (cases_Bool (test y)) [
    | inl is ↦ rw is (All-cons P x xs p (All-tail P y xs all))
    | inr isnt ↦ rw isnt (All-cons P y (put_by test x xs) (All-head P y xs all) (All-put_by x xs p (All-tail P y xs all)))
  ]

  pub All-drop_by : (xs : List A) → All P xs → All P (drop_by test xs)
  All-drop_by [] all = all
  All-drop_by (y ∷ xs) all = elim (cases_Bool (test y)) [
    | inl is ↦ rw is (All-tail P y xs all)
    | inr isnt ↦ rw isnt (All-cons P y (drop_by test xs) (All-head P y xs all) (All-drop_by xs (All-tail P y xs all)))
  ]

-- what is so of each style is so with one more
pub All-inserted : (P : Style → Type 0) (new : Style) (styles : List Style) → P new → All P styles → All P (inserted new styles)
All-inserted P new [] p all = All-cons P new [] p all
All-inserted P new (style ∷ styles) p all = elim (cases_Bool (nat_lt new.number style.number)) [
  | inl is ↦ rw is (All-cons P new (style ∷ styles) p all)
  | inr isnt ↦ rw isnt (All-cons P style (inserted new styles) (All-head P style styles all) (All-inserted P new styles p (All-tail P style styles all)))
]

-- behind one that comes before
all_behind : (first style : Style) (styles : List Style) → comes_before first style ≡ true → list_all (comes_before style) styles ≡ true → list_all (comes_before first) styles ≡ true
all_behind first style [] before all = refl
all_behind first style (other ∷ styles) before all =
    let rest = all_behind first style styles before in grind (arith, nat_tests, before, all, rest)

inserted_behind : (first new : Style) (styles : List Style) → comes_before first new ≡ true → list_all (comes_before first) styles ≡ true → list_all (comes_before first) (inserted new styles) ≡ true
inserted_behind first new [] before all = rw before refl
inserted_behind first new (style ∷ styles) before all = elim (cases_Bool (nat_lt new.number style.number)) [
  | inl is ↦ rw (is, before) all
  | inr isnt ↦ let rest = inserted_behind first new styles before in rw isnt (grind (arith, nat_tests, all, rest))
]

ordered-inserted : (new : Style) (styles : List Style) → has_style styles new.number ≡ false → are_ordered styles ≡ true → are_ordered (inserted new styles) ≡ true
ordered-inserted new [] none ordered = refl
ordered-inserted new (style ∷ styles) none ordered = elim (cases_Bool (nat_lt new.number style.number)) [
  | inl is ↦ let behind = all_behind new style styles is in rw is (grind (arith, nat_tests, ordered, is, behind))
  | inr isnt ↦
      let rest = ordered-inserted new styles in
      let behind = inserted_behind style new styles in
      rw isnt (grind (arith, nat_tests, none, ordered, isnt, rest, behind))
]

-- a style that is there stays with one more
has-inserted : (new : Style) (number : ℕ) (styles : List Style) → has_style styles number ≡ true → has_style (inserted new styles) number ≡ true
has-inserted new number [] there = cc
has-inserted new number (style ∷ styles) there =
    let rest = has-inserted new number styles in grind (arith, nat_tests, there, rest)

module _ (number : ℕ) (f : List Setting → List Setting) where
  has-changed : (other : ℕ) (styles : List Style) → has_style (map (with_settings number f) styles) other ≡ has_style styles other
  has-changed other [] = refl
  has-changed other (style ∷ styles) =
      let rest = has-changed other styles in grind (arith, nat_tests, rest)

  changed_behind : (first : Style) (styles : List Style) → list_all (comes_before first) (map (with_settings number f) styles) ≡ list_all (comes_before first) styles
  changed_behind first [] = refl
  changed_behind first (style ∷ styles) = elim (cases_Bool (is_numbered number style)) [
    | inl is ↦ rw (is, changed_behind first styles) refl
    | inr isnt ↦ rw (isnt, changed_behind first styles) refl
  ]

  ordered-changed : (styles : List Style) → are_ordered (map (with_settings number f) styles) ≡ are_ordered styles
  ordered-changed [] = refl
  ordered-changed (style ∷ styles) = elim (cases_Bool (is_numbered number style)) [
    | inl is ↦ rw (is, changed_behind style styles, ordered-changed styles) refl
    | inr isnt ↦ rw (isnt, changed_behind style styles, ordered-changed styles) refl
  ]

  -- what is so of each setting is so where it stays so in these settings
  module _ (P : Setting → Type 0) (keeps : (settings : List Setting) → All P settings → All P (f settings)) where
    one_changed : (style : Style) → (is : Bool) → All P style.settings → All P (if is then record { number = style.number; settings = f style.settings } else style).settings
    one_changed style true fits = keeps style.settings fits
    one_changed style false fits = fits

    pub All-changed : (styles : List Style) → All (λ (style : Style). All P style.settings) styles → All (λ (style : Style). All P style.settings) (map (with_settings number f) styles)
    All-changed styles all =
        All-map (λ (style : Style). All P style.settings) (with_settings number f) styles
        (All-weaker (λ (style : Style). All P style.settings) (λ (style : Style). All P (with_settings number f style).settings) (λ style fits. one_changed style (is_numbered number style) fits) styles all)

module _ (book : Book) (in_order : IsBook book) where
  -- the styles that are used are there where all styles stay
  still_used : (styles : List Style) → ((number : ℕ) → has_style book.styles number ≡ true → has_style styles number ≡ true) → All (All (IsUsed styles)) book.uses
  still_used styles stay =
      All-weaker (All (IsUsed book.styles)) (All (IsUsed styles)) (λ us all. All-weaker (IsUsed book.styles) (IsUsed styles) (λ u is. stay u.style is) us all) book.uses in_order.used

  -- one style more
  pub style_keeps : (number : ℕ) → has_style book.styles number ≡ false → IsBook (record book { styles = inserted (record { number = number; settings = [] }) book.styles })
  style_keeps number none = record {
    ordered = ordered-inserted (record { number = number; settings = [] }) book.styles none in_order.ordered;
    settings = All-inserted IsStyle (record { number = number; settings = [] }) book.styles (All-nil IsSetting) in_order.settings;
    locals = in_order.locals;
    used = still_used _ (λ n is. has-inserted (record { number = number; settings = [] }) n book.styles is);
    local_places = in_order.local_places;
    use_places = in_order.use_places;
  }

  -- other settings of a style
  pub settings_keep : (number : ℕ) (f : List Setting → List Setting) → ((settings : List Setting) → All IsSetting settings → All IsSetting (f settings)) → IsBook (record book { styles = map (with_settings number f) book.styles })
  settings_keep number f keeps = record {
    ordered = ordered-changed number f book.styles ∙ in_order.ordered;
    settings = All-changed number f IsSetting keeps book.styles in_order.settings;
    locals = in_order.locals;
    used = still_used _ (λ n is. has-changed number f n book.styles ∙ is);
    local_places = in_order.local_places;
    use_places = in_order.use_places;
  }

  -- other entries of an object, and other uses
  pub locals_keep : (h : ℕ) (entries : List Entry) → All IsEntry entries → IsBook (record book { locals = slice_set book.locals h entries })
  locals_keep h entries all = record {
    ordered = in_order.ordered;
    settings = in_order.settings;
    locals = All-set (All IsEntry) book.locals h entries all in_order.locals;
    used = in_order.used;
    local_places = length-set book.locals h entries ∙ in_order.local_places;
    use_places = in_order.use_places;
  }

  pub uses_keep : (h : ℕ) (uses : List Use) → All (IsUsed book.styles) uses → IsBook (record book { uses = slice_set book.uses h uses })
  uses_keep h uses all = record {
    ordered = in_order.ordered;
    settings = in_order.settings;
    locals = in_order.locals;
    used = All-set (All (IsUsed book.styles)) book.uses h uses all in_order.used;
    local_places = in_order.local_places;
    use_places = length-set book.uses h uses ∙ in_order.use_places;
  }
