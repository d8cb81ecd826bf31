-- What wins where styles change elsewhere, or for another property.
use Rattle.std.proofs.Common.{◌≡◌, ◌∙◌, sym, ℕ, Bool, true, false, eqb, ◌&&◌, Option, None, option_map, List, [], ◌∷◌, ◌++◌, map, refl, arith, inl, inr, ℤ, ap}
use Rattle.std.specs.Prelude.{if◌then◌else◌, fold, slice_set, slice_index_or, length, nat_lt, ◌⊎◌}
use Rattle.std.specs.Option.{option_or}
use Rattle.std.specs.List.{list_any}
use Rattle.std.proofs.lemmas.List.{get_or-set_same, get_or-set_other, set_past}
use Rattle.std.proofs.lemmas.Bool.{cases_Bool, cases_lt, eqb-true, and_parts, or_parts, or_from, and_right, and_cases, false≢true}
use Rattle.std.proofs.lemmas.Bool.Decides.{nat_tests, eqb_tells}
use Rattle.std.proofs.lemmas.Grind.{fold-append}
use Rattle.gui_base.specs.declared.words.Part.{Part}
use Rattle.gui_base.specs.declared.words.Part.TheVariants.{Main}
use denote.Enum.Bare.{same_true}
use Rattle.gui_base.specs.contracts.props.Prop.{the_type}
use Rattle.gui_base.specs.declared.props.Prop.{Prop}
use Rattle.gui_base.specs.Props.{inherits}
use Rattle.gui_base.specs.Words.{same_prop}
use Rattle.style_defs.specs.declared.Candidate.{Candidate}
use Rattle.style_defs.specs.declared.Entry.{Entry}
use Rattle.style_defs.specs.declared.Setting.{Setting}
use Rattle.style_defs.specs.declared.Use.{Use}
use Rattle.style_defs.specs.Book.{Book, is_use, is_for, locals_of, uses_of, with_settings, inserted, with_local, without_local, with_use, without_use, with_prop, without_prop, with_style}
use Rattle.style_defs.specs.Cascade.{Style, is_numbered, has_style, settings_of, sets, setting_of, of_entry, of_use, stronger, candidate, applies, winning, selector_of}
use Rattle.style_defs.specs.Firsts.{put_by, drop_by}
use Rattle.style_defs.specs.Value.{Styled, won, inherited, value_on}
use Rattle.scene_defs.specs.Scene.{Object, is_at, styled_of}
use Rattle.gui_base.specs.declared.words.Selector.{Selector}
use Rattle.debt_defs.specs.Concerns.{asked, is_of_style, uses_style}

-- two objects have the same kind and states, and the same wins for each part
pub record WinSame (styles before : List Style) (o p : Styled) (prop : Prop) : Type 0 where
  pub kind : o.kind ≡ p.kind
  pub states : o.states ≡ p.states
  pub wins : (part : Part) → won styles o part prop ≡ won before p part prop

-- what is asked for less is asked for more
pub asked-none : (p : Object → Bool) (b c : Bool) (path : List Object) → (c ≡ true → b ≡ true) → list_any p (asked b path) ≡ false → list_any p (asked c path) ≡ false
asked-none p true true path less off = off
asked-none p false false path less off = off
asked-none p true false [] less off = off
asked-none p true false (object ∷ above) less off =
    let parts : (p object ≡ false) × (list_any p above ≡ false) = or_parts _ _ off in
    rw parts.0 refl
asked-none p false true path less off = absurd (false≢true (less refl))

-- the objects of a path that may have other wins are not asked
module _ (styles before : List Style) (f g : Object → Styled) (prop : Prop) (changes : Object → Bool)
    (each : (object : Object) → changes object ≡ false → WinSame styles before (f object) (g object) prop) where
  inherited-same : (path : List Object) → list_any changes path ≡ false → inherited styles (map f path) prop ≡ inherited before (map g path) prop
  inherited-same [] off = refl
  inherited-same (object ∷ above) off =
      let parts : (changes object ≡ false) × (list_any changes above ≡ false) = or_parts _ _ off in
      rw ((each object parts.0).wins Main, inherited-same above parts.1) refl

  given-same : (i : Bool) (object : Object) (above : List Object) (part : Part) → list_any changes (asked i (object ∷ above)) ≡ false →
      option_or (won styles (f object) part prop) (if i then inherited styles (map f (object ∷ above)) prop else None)
      ≡ option_or (won before (g object) part prop) (if i then inherited before (map g (object ∷ above)) prop else None)
  given-same true object above part off =
      let own : changes object ≡ false = (or_parts _ _ off).0 in
      rw ((each object own).wins part, inherited-same (object ∷ above) off) refl
  given-same false object above part off =
      let own : changes object ≡ false = (or_parts _ _ off).0 in
      rw ((each object own).wins part) refl

  own-same : (i : Bool) (object : Object) (above : List Object) → list_any changes (asked i (object ∷ above)) ≡ false → changes object ≡ false
  own-same true object above off = (or_parts _ _ off).0
  own-same false object above off = (or_parts _ _ off).0

  pub value-same : (path : List Object) (part : Part) → list_any changes (asked (inherits prop) path) ≡ false →
      value_on styles (map f path) part prop ≡ value_on before (map g path) part prop
  value-same [] part off = refl
  value-same (object ∷ above) part off =
      let own = each object (own-same (inherits prop) object above off) in
      rw (given-same (inherits prop) object above part off, own.kind, own.states) refl

-- Candidates that are not there change no winner.
stronger-none : (best : Option Candidate) → stronger best None ≡ best
stronger-none best = refl

module _ {A : Type 0} (gives : A → Option Candidate) where
  abbrev best_of : Option Candidate → List A → Option Candidate
  best_of best xs = fold stronger best (map gives xs)

  -- where each that passes gives nothing
  put-none : (test : A → Bool) (new : A) → gives new ≡ None → ((x : A) → test x ≡ true → gives x ≡ None) → (xs : List A) (best : Option Candidate) →
      best_of best (put_by test new xs) ≡ best_of best xs
  put-none test new none each [] best = rw none refl
  put-none test new none each (x ∷ xs) best = elim (cases_Bool (test x)) [
    | inl is ↦ rw is (rw (none, each x is) refl)
    | inr isnt ↦ rw isnt (put-none test new none each xs (stronger best (gives x)))
  ]

  drop-none : (test : A → Bool) → ((x : A) → test x ≡ true → gives x ≡ None) → (xs : List A) (best : Option Candidate) →
      best_of best (drop_by test xs) ≡ best_of best xs
  drop-none test each [] best = refl
  drop-none test each (x ∷ xs) best = elim (cases_Bool (test x)) [
    | inl is ↦ rw is (rw (each x is) refl)
    | inr isnt ↦ rw isnt (drop-none test each xs (stronger best (gives x)))
  ]

  last-none : (new : A) → gives new ≡ None → (xs : List A) (best : Option Candidate) → best_of best (xs ++ new ∷ []) ≡ best_of best xs
  last-none new none [] best = rw none refl
  last-none new none (x ∷ xs) best = last-none new none xs (stronger best (gives x))

pub map-same : {A B : Type 0} (f g : A → B) (changes : A → Bool) → ((a : A) → changes a ≡ false → f a ≡ g a) → (as' : List A) → list_any changes as' ≡ false → map f as' ≡ map g as'
map-same f g changes each [] off = refl
map-same f g changes each (a ∷ as') off =
    let parts : (changes a ≡ false) × (list_any changes as' ≡ false) = or_parts _ _ off in
    rw (each a parts.0, map-same f g changes each as' parts.1) refl

-- Local entries.
module _ (styles : List Style) (uses : List Use) (part : Part) (states : ℕ) (prop : Prop) where
  abbrev entry_gives : Entry → Option Candidate
  entry_gives = of_entry part states prop

  abbrev use_gives : Use → Option Candidate
  use_gives = of_use styles part states prop

  abbrev values : Option Candidate → Option ℤ
  values = option_map (λ (c : Candidate). c.value)

  -- another list of entries with the same winner
  locals-same : (locals old : List Entry) → ((best : Option Candidate) → best_of entry_gives best locals ≡ best_of entry_gives best old) →
      winning styles uses locals part states prop ≡ winning styles uses old part states prop
  locals-same locals old same =
      ap values (fold-append stronger None (map use_gives uses) (map entry_gives locals)
      ∙ same (fold stronger None (map use_gives uses))
      ∙ sym (fold-append stronger None (map use_gives uses) (map entry_gives old)))

  entry-none : (entry : Entry) → same_prop entry.prop prop ≡ false → entry_gives entry ≡ None
  entry-none entry other = rw other refl

  -- another list of uses with the same winner
  pub uses-same : (others : List Use) (locals : List Entry) → ((best : Option Candidate) → best_of use_gives best others ≡ best_of use_gives best uses) →
      winning styles others locals part states prop ≡ winning styles uses locals part states prop
  uses-same others locals same =
      ap values (fold-append stronger None (map use_gives others) (map entry_gives locals)
      ∙ ap (λ best. fold stronger best (map entry_gives locals)) (same None)
      ∙ sym (fold-append stronger None (map use_gives uses) (map entry_gives locals)))

-- Two tests of a property.
pub prop-is : (p q : Prop) → same_prop p q ≡ true → p ≡ q
prop-is p q same = same_true the_type tt p q same

-- a list of lists with another one at a place
set-cases : {A : Type 0} (lists : List (List A)) (h j : ℕ) (xs : List A) →
    (slice_index_or (slice_set lists h xs) j [] ≡ slice_index_or lists j []) ⊎ ((eqb j h ≡ true) × (slice_index_or (slice_set lists h xs) j [] ≡ xs))
set-cases lists h j xs = elim (eqb_tells j h) [
  | inl is ↦ elim (cases_lt h (length lists)) [
    | inl within ↦ inr (is.0, ap (λ i. slice_index_or (slice_set lists h xs) i []) is.1 ∙ get_or-set_same lists h xs [] within)
    | inr past ↦ inl (ap (λ l. slice_index_or l j []) (set_past lists h xs past))
  ]
  | inr isnt ↦ inl (get_or-set_other lists h j xs [] isnt.1)
]

-- An object where styles, local entries or uses have changed.
module _ (book : Book) (prop : Prop) where
  abbrev AsBefore : Book → Object → Type 0
  AsBefore after object = WinSame after.styles book.styles (styled_of after object) (styled_of book object) prop

  -- other entries at h, that give the property what the old ones gave
  entries-changed : (h : ℕ) (entries : List Entry) (object : Object) →
      (eqb object.handle h ≡ true → (part : Part) (states : ℕ) (best : Option Candidate) →
      best_of (of_entry part states prop) best entries ≡ best_of (of_entry part states prop) best (locals_of book object.handle)) →
      AsBefore (record book { locals = slice_set book.locals h entries }) object
  entries-changed h entries object gives = record { kind = refl; states = refl; wins = λ part. by part (set-cases book.locals h object.handle entries) } where
    by : (part : Part) → (slice_index_or (slice_set book.locals h entries) object.handle [] ≡ locals_of book object.handle)
        ⊎ ((eqb object.handle h ≡ true) × (slice_index_or (slice_set book.locals h entries) object.handle [] ≡ entries)) →
        winning book.styles (uses_of book object.handle) (slice_index_or (slice_set book.locals h entries) object.handle []) part object.row.states prop
        ≡ winning book.styles (uses_of book object.handle) (locals_of book object.handle) part object.row.states prop
    by part (inl same) = ap (λ l. winning book.styles (uses_of book object.handle) l part object.row.states prop) same
    by part (inr other) =
        ap (λ l. winning book.styles (uses_of book object.handle) l part object.row.states prop) other.1
        ∙ locals-same book.styles (uses_of book object.handle) part object.row.states prop entries (locals_of book object.handle) (gives other.0 part object.row.states)

  uses-changed : (h : ℕ) (uses : List Use) (object : Object) →
      (eqb object.handle h ≡ true → (part : Part) (states : ℕ) (best : Option Candidate) →
      best_of (of_use book.styles part states prop) best uses ≡ best_of (of_use book.styles part states prop) best (uses_of book object.handle)) →
      AsBefore (record book { uses = slice_set book.uses h uses }) object
  uses-changed h uses object gives = record { kind = refl; states = refl; wins = λ part. by part (set-cases book.uses h object.handle uses) } where
    by : (part : Part) → (slice_index_or (slice_set book.uses h uses) object.handle [] ≡ uses_of book object.handle)
        ⊎ ((eqb object.handle h ≡ true) × (slice_index_or (slice_set book.uses h uses) object.handle [] ≡ uses)) →
        winning book.styles (slice_index_or (slice_set book.uses h uses) object.handle []) (locals_of book object.handle) part object.row.states prop
        ≡ winning book.styles (uses_of book object.handle) (locals_of book object.handle) part object.row.states prop
    by part (inl same) = ap (λ l. winning book.styles l (locals_of book object.handle) part object.row.states prop) same
    by part (inr other) =
        ap (λ l. winning book.styles l (locals_of book object.handle) part object.row.states prop) other.1
        ∙ uses-same book.styles (uses_of book object.handle) part object.row.states prop uses (locals_of book object.handle) (gives other.0 part object.row.states)

  -- an entry for another property
  other-entry : (entry : Entry) (q : Prop) → same_prop q prop ≡ false → same_prop entry.prop q ≡ true → (part : Part) (states : ℕ) → of_entry part states prop entry ≡ None
  other-entry entry q off same part states = let e : same_prop entry.prop prop ≡ false = ap (λ p. same_prop p prop) (prop-is entry.prop q same) ∙ off in rw e refl

  pub local-set : (h : ℕ) (entry : Entry) (object : Object) → (is_at h object && same_prop entry.prop prop) ≡ false → AsBefore (with_local book h entry) object
  local-set h entry object off = entries-changed h (put_by (is_for (selector_of entry) entry.prop) entry (locals_of book h)) object gives where
    gives : eqb object.handle h ≡ true → (part : Part) (states : ℕ) (best : Option Candidate) →
        best_of (of_entry part states prop) best (put_by (is_for (selector_of entry) entry.prop) entry (locals_of book h)) ≡ best_of (of_entry part states prop) best (locals_of book object.handle)
    gives is part states best =
        let other : same_prop entry.prop prop ≡ false = rw is at off in
        let same = eqb-true object.handle h is in
        put-none (of_entry part states prop) (is_for (selector_of entry) entry.prop) entry (rw other refl)
        (λ x passes. other-entry x entry.prop other (and_parts _ _ passes).0 part states) (locals_of book h) best
        ∙ ap (λ j. best_of (of_entry part states prop) best (locals_of book j)) (sym same)

  pub local-unset : (h : ℕ) (selector : Selector) (q : Prop) (object : Object) → (is_at h object && same_prop q prop) ≡ false → AsBefore (without_local book h selector q) object
  local-unset h selector q object off = entries-changed h (drop_by (is_for selector q) (locals_of book h)) object gives where
    gives : eqb object.handle h ≡ true → (part : Part) (states : ℕ) (best : Option Candidate) →
        best_of (of_entry part states prop) best (drop_by (is_for selector q) (locals_of book h)) ≡ best_of (of_entry part states prop) best (locals_of book object.handle)
    gives is part states best =
        let other : same_prop q prop ≡ false = rw is at off in
        drop-none (of_entry part states prop) (is_for selector q) (λ x passes. other-entry x q other (and_parts _ _ passes).0 part states) (locals_of book h) best
        ∙ ap (λ j. best_of (of_entry part states prop) best (locals_of book j)) (sym (eqb-true object.handle h is))

  -- whether a style sets the property
  abbrev pub gives : ℕ → Bool
  gives number = list_any (sets prop) (settings_of book.styles number)

  none-set : (settings : List Setting) → list_any (sets prop) settings ≡ false → setting_of settings prop ≡ None
  none-set [] off = refl
  none-set (s ∷ settings) off =
      let parts : (sets prop s ≡ false) × (list_any (sets prop) settings ≡ false) = or_parts _ _ off in
      rw parts.0 (none-set settings parts.1)

  -- a use of a style that does not
  none-of-use : (u : Use) (part : Part) (states : ℕ) → gives u.style ≡ false → of_use book.styles part states prop u ≡ None
  none-of-use u part states off = let none = none-set (settings_of book.styles u.style) off in rw none (either-none (applies part states u.selector)) where
    either-none : (b : Bool) → (if b then option_map (candidate u.selector) None else None) ≡ None
    either-none true = refl
    either-none false = refl

  pub use-set : (h : ℕ) (u : Use) (object : Object) → (is_at h object && gives u.style) ≡ false → AsBefore (with_use book h u) object
  use-set h u object off = uses-changed h (uses_of book h ++ u ∷ []) object same where
    same : eqb object.handle h ≡ true → (part : Part) (states : ℕ) (best : Option Candidate) →
        best_of (of_use book.styles part states prop) best (uses_of book h ++ u ∷ []) ≡ best_of (of_use book.styles part states prop) best (uses_of book object.handle)
    same is part states best =
        last-none (of_use book.styles part states prop) u (none-of-use u part states (rw is at off)) (uses_of book h) best
        ∙ ap (λ j. best_of (of_use book.styles part states prop) best (uses_of book j)) (sym (eqb-true object.handle h is))

  pub use-unset : (h : ℕ) (u : Use) (object : Object) → (is_at h object && gives u.style) ≡ false → AsBefore (without_use book h u) object
  use-unset h u object off = uses-changed h (drop_by (is_use u) (uses_of book h)) object same where
    same : eqb object.handle h ≡ true → (part : Part) (states : ℕ) (best : Option Candidate) →
        best_of (of_use book.styles part states prop) best (drop_by (is_use u) (uses_of book h)) ≡ best_of (of_use book.styles part states prop) best (uses_of book object.handle)
    same is part states best =
        let none : gives u.style ≡ false = rw is at off in
        drop-none (of_use book.styles part states prop) (is_use u)
        (λ v passes. none-of-use v part states (ap gives (eqb-true v.style u.style (and_parts _ _ passes).0) ∙ none)) (uses_of book h) best
        ∙ ap (λ j. best_of (of_use book.styles part states prop) best (uses_of book j)) (sym (eqb-true object.handle h is))

  -- Shared styles.
  styles-changed : (styles : List Style) (changes : Use → Bool) →
      ((u : Use) → changes u ≡ false → setting_of (settings_of styles u.style) prop ≡ setting_of (settings_of book.styles u.style) prop) →
      (object : Object) → list_any changes (uses_of book object.handle) ≡ false → AsBefore (record book { styles = styles }) object
  styles-changed styles changes each object off = record {
    kind = refl;
    states = refl;
    wins = λ part.
        let same = map-same (of_use styles part object.row.states prop) (of_use book.styles part object.row.states prop) changes
        (λ u stays. ap (λ (o : Option ℤ). if applies part object.row.states u.selector then option_map (candidate u.selector) o else None) (each u stays))
        (uses_of book object.handle) off in
        ap (λ us. option_map (λ (c : Candidate). c.value) (fold stronger None (us ++ map (of_entry part object.row.states prop) (locals_of book object.handle)))) same;
  }

  -- other settings of a style, that give the property what the old ones gave
  settings-kept : (number : ℕ) (f : List Setting → List Setting) (styles : List Style) (n : ℕ) →
      (eqb n number ≡ true → (settings : List Setting) → setting_of (f settings) prop ≡ setting_of settings prop) →
      setting_of (settings_of (map (with_settings number f) styles) n) prop ≡ setting_of (settings_of styles n) prop
  settings-kept number f [] n kept = refl
  settings-kept number f (style ∷ styles) n kept = elim (cases_Bool (is_numbered number style)) [
    | inl is ↦ elim (cases_Bool (is_numbered n style)) [
      | inl found ↦
          let same : eqb n number ≡ true = grind (arith, nat_tests) in
          rw (is, found) (kept same style.settings)
      | inr other ↦ rw (is, other) (settings-kept number f styles n kept)
    ]
    | inr isnt ↦ elim (cases_Bool (is_numbered n style)) [
      | inl found ↦ rw (isnt, found) refl
      | inr other ↦ rw (isnt, other) (settings-kept number f styles n kept)
    ]
  ]

  put-kept : (setting : Setting) → same_prop setting.prop prop ≡ false → (settings : List Setting) → setting_of (put_by (sets setting.prop) setting settings) prop ≡ setting_of settings prop
  put-kept setting off [] = rw off refl
  put-kept setting off (s ∷ settings) = elim (cases_Bool (sets setting.prop s)) [
    | inl is ↦
        let other : same_prop s.prop prop ≡ false = ap (λ p. same_prop p prop) (prop-is s.prop setting.prop is) ∙ off in
        rw is (rw (off, other) refl)
    | inr isnt ↦ rw isnt (elim (cases_Bool (sets prop s)) [
      | inl found ↦ rw found refl
      | inr other ↦ rw other (put-kept setting off settings)
    ])
  ]

  drop-kept : (q : Prop) → same_prop q prop ≡ false → (settings : List Setting) → setting_of (drop_by (sets q) settings) prop ≡ setting_of settings prop
  drop-kept q off [] = refl
  drop-kept q off (s ∷ settings) = elim (cases_Bool (sets q s)) [
    | inl is ↦
        let other : same_prop s.prop prop ≡ false = ap (λ p. same_prop p prop) (prop-is s.prop q is) ∙ off in
        rw is (rw other refl)
    | inr isnt ↦ rw isnt (elim (cases_Bool (sets prop s)) [
      | inl found ↦ rw found refl
      | inr other ↦ rw other (drop-kept q off settings)
    ])
  ]

  -- a user of the style, where the property is the one that is set
  user-none : (number : ℕ) (q : Prop) (us : List Use) → (list_any (is_of_style number) us && same_prop q prop) ≡ false → list_any (λ u. is_of_style number u && same_prop q prop) us ≡ false
  user-none number q us off = elim (and_cases _ _ off) [
    | inl no_user ↦ by us no_user
    | inr other ↦ off-all us other
  ]
    where
      by : (us : List Use) → list_any (is_of_style number) us ≡ false → list_any (λ u. is_of_style number u && same_prop q prop) us ≡ false
      by [] n = refl
      by (u ∷ us) n =
          let parts : (is_of_style number u ≡ false) × (list_any (is_of_style number) us ≡ false) = or_parts _ _ n in
          rw (parts.0, by us parts.1) refl

      off-all : (us : List Use) → same_prop q prop ≡ false → list_any (λ u. is_of_style number u && same_prop q prop) us ≡ false
      off-all [] other = refl
      off-all (u ∷ us) other = or_from _ _ (and_right _ _ other) (off-all us other)

  pub prop-set : (number : ℕ) (setting : Setting) (object : Object) → (uses_style book number object && same_prop setting.prop prop) ≡ false → AsBefore (with_prop book number setting) object
  prop-set number setting object off =
      styles-changed (map (with_settings number (put_by (sets setting.prop) setting)) book.styles) (λ u. is_of_style number u && same_prop setting.prop prop)
      (λ u stays. settings-kept number (put_by (sets setting.prop) setting) book.styles u.style (λ same. put-kept setting (rw same at stays)))
      object (user-none number setting.prop (uses_of book object.handle) off)

  pub prop-unset : (number : ℕ) (q : Prop) (object : Object) → (uses_style book number object && same_prop q prop) ≡ false → AsBefore (without_prop book number q) object
  prop-unset number q object off =
      styles-changed (map (with_settings number (drop_by (sets q))) book.styles) (λ u. is_of_style number u && same_prop q prop)
      (λ u stays. settings-kept number (drop_by (sets q)) book.styles u.style (λ same. drop-kept q (rw same at stays)))
      object (user-none number q (uses_of book object.handle) off)

  -- a new style sets nothing, like one that is not there
  no-style : (styles : List Style) (n : ℕ) → has_style styles n ≡ false → setting_of (settings_of styles n) prop ≡ None
  no-style [] n off = refl
  no-style (style ∷ styles) n off = elim (cases_Bool (is_numbered n style)) [
    | inl found ↦ absurd (false≢true (sym off ∙ rw found refl))
    | inr other ↦ rw other (no-style styles n (rw other at off))
  ]

  abbrev bare : ℕ → Style
  bare number = record { number = number; settings = [] }

  new-style : (number : ℕ) (styles : List Style) (n : ℕ) → has_style styles number ≡ false → setting_of (settings_of (inserted (bare number) styles) n) prop ≡ setting_of (settings_of styles n) prop
  new-style number [] n off = elim (cases_Bool (eqb number n)) [ inl is ↦ rw is refl | inr isnt ↦ rw isnt refl ]
  new-style number (style ∷ styles) n off = elim (cases_Bool (nat_lt number style.number)) [
    | inl first ↦ rw first (elim (eqb_tells number n) [
      | inl is ↦ rw is.0 (sym (no-style (style ∷ styles) n (ap (has_style (style ∷ styles)) (sym is.1) ∙ off)))
      | inr isnt ↦ rw isnt.0 refl
    ])
    | inr later ↦ rw later (elim (cases_Bool (is_numbered n style)) [
      | inl found ↦ rw found refl
      | inr other ↦ rw other (new-style number styles n (rest-off number style styles off))
    ])
  ]
    where
      rest-off : (number : ℕ) (style : Style) (styles : List Style) → has_style (style ∷ styles) number ≡ false → has_style styles number ≡ false
      rest-off number style styles off = elim (cases_Bool (is_numbered number style)) [
        | inl found ↦ absurd (false≢true (sym off ∙ rw found refl))
        | inr other ↦ rw other at off
      ]

  pub style-made : (number : ℕ) (object : Object) → has_style book.styles number ≡ false → AsBefore (with_style book number) object
  style-made number object off =
      styles-changed (inserted (bare number) book.styles) (λ u. false) (λ u stays. new-style number book.styles u.style off) object (nobody (uses_of book object.handle))
    where
      nobody : (us : List Use) → list_any (λ u. false) us ≡ false
      nobody [] = refl
      nobody (u ∷ us) = nobody us
