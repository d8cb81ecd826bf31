-- The values of main parts where styles or local entries change that give them nothing layout goes by.
use Rattle.std.proofs.Common.{◌≡◌, ◌∙◌, sym, ap, ℕ, Bool, true, false, ◌&&◌, Option, None, option_map, List, [], ◌∷◌, map, refl, inl, inr, ℤ}
use Rattle.std.specs.Prelude.{if◌then◌else◌, fold, slice_set, slice_index_or, length, ◌⊎◌}
use Rattle.std.specs.Option.{option_or}
use Rattle.std.proofs.lemmas.List.{get_or-set_same, get_or-set_other, set_past}
use Rattle.std.proofs.lemmas.Bool.{cases_Bool, cases_lt, and_parts, and_right, and_from, both_ways, false_from_ne_true}
use Rattle.std.proofs.lemmas.Bool.Decides.{eqb_tells}
use Rattle.std.proofs.lemmas.Grind.{fold-append}
use denote.Enum.Bare.{same_true}
use Rattle.gui_base.specs.contracts.words.Part as part
use Rattle.gui_base.specs.declared.props.Prop.{Prop}
use Rattle.gui_base.specs.declared.words.Part.{Part}
use Rattle.gui_base.specs.declared.words.Part.TheVariants.{Main}
use Rattle.gui_base.specs.declared.words.Selector.{Selector}
use Rattle.gui_base.specs.Props.{inherits}
use Rattle.gui_base.specs.Words.{same_prop, same_part}
use Rattle.style_defs.specs.declared.Candidate.{Candidate}
use Rattle.style_defs.specs.declared.Entry.{Entry}
use Rattle.style_defs.specs.declared.Use.{Use}
use Rattle.style_defs.specs.Book.{Book, is_for, locals_of, uses_of, with_local, without_local, an_entry, with_prop, without_prop, a_setting}
use Rattle.style_defs.specs.Cascade.{Style, of_entry, of_use, stronger, applies, is_subset, selector_of, winning}
use Rattle.style_defs.specs.Firsts.{put_by, drop_by}
use Rattle.style_defs.specs.Value.{Styled, won, inherited, value_on}
use Rattle.scene_defs.specs.Scene.{Object, Scene, path_at, styled_of, value}
use Rattle.debt_defs.specs.Concerns.{asked}
use Rattle.debt_defs.proofs.SameRows.{all-off}
use Rattle.debt_defs.proofs.Wins.{prop-is, prop-set, prop-unset, value-same}
use Rattle.gui_concerns.specs.Moving.{goes_by, goes_by_set}

-- a property that layout goes by is another one than one that it does not go by
other-prop : (p q : Prop) → goes_by p ≡ false → goes_by q ≡ true → same_prop p q ≡ false
other-prop p q off on = false_from_ne_true _ (λ same. both_ways (goes_by p) off (ap goes_by (prop-is p q same) ∙ on))

-- Shared styles: no object has another value of any other property.
pub values-set : (scene : Scene) (number : ℕ) (p : Prop) (n : ℤ) (h : ℕ) → goes_by p ≡ false → (q : Prop) → goes_by q ≡ true →
    value (record scene { book = with_prop scene.book number (a_setting p n) }) h Main q ≡ value scene h Main q
values-set scene number p n h off q on =
    let after = with_prop scene.book number (a_setting p n) in
    value-same after.styles scene.book.styles (styled_of after) (styled_of scene.book) q (λ object. false)
    (λ object stays. prop-set scene.book q number (a_setting p n) object (and_right _ _ (other-prop p q off on)))
    (path_at scene h) Main (all-off (asked (inherits q) (path_at scene h)))

pub values-unset : (scene : Scene) (number : ℕ) (p : Prop) (h : ℕ) → goes_by p ≡ false → (q : Prop) → goes_by q ≡ true →
    value (record scene { book = without_prop scene.book number p }) h Main q ≡ value scene h Main q
values-unset scene number p h off q on =
    let after = without_prop scene.book number p in
    value-same after.styles scene.book.styles (styled_of after) (styled_of scene.book) q (λ object. false)
    (λ object stays. prop-unset scene.book q number p object (and_right _ _ (other-prop p q off on)))
    (path_at scene h) Main (all-off (asked (inherits q) (path_at scene h)))

-- Local entries. Values of main parts go by what wins for main parts.
module _ (styles : List Style) (f g : Object → Styled) (prop : Prop) where
  pub record MainSame (object : Object) : Type 0 where
    pub kind : (f object).kind ≡ (g object).kind
    pub states : (f object).states ≡ (g object).states
    pub wins : won styles (f object) Main prop ≡ won styles (g object) Main prop

  module _ (each : (object : Object) → MainSame object) where
    inherited-main : (path : List Object) → inherited styles (map f path) prop ≡ inherited styles (map g path) prop
    inherited-main [] = refl
    inherited-main (object ∷ above) = rw ((each object).wins, inherited-main above) refl

    given-main : (i : Bool) (object : Object) (above : List Object) →
        option_or (won styles (f object) Main prop) (if i then inherited styles (map f (object ∷ above)) prop else None)
        ≡ option_or (won styles (g object) Main prop) (if i then inherited styles (map g (object ∷ above)) prop else None)
    given-main true object above = rw ((each object).wins, inherited-main above) refl
    given-main false object above = rw (each object).wins refl

    value-main : (path : List Object) → value_on styles (map f path) Main prop ≡ value_on styles (map g path) Main prop
    value-main [] = refl
    value-main (object ∷ above) = rw (given-main (inherits prop) object above, (each object).kind, (each object).states) refl

-- Entries that give nothing change no winner.
module _ (gives : Entry → Option Candidate) where
  abbrev best_of : Option Candidate → List Entry → Option Candidate
  best_of best entries = fold stronger best (map gives entries)

  put-none : (test : Entry → Bool) (new : Entry) → gives new ≡ None → ((entry : Entry) → test entry ≡ true → gives entry ≡ None) → (entries : List Entry) (best : Option Candidate) →
      best_of best (put_by test new entries) ≡ best_of best entries
  put-none test new none each [] best = rw none refl
  put-none test new none each (entry ∷ entries) best = elim (cases_Bool (test entry)) [
    | inl is ↦ rw is (rw (none, each entry is) refl)
    | inr isnt ↦ rw isnt (put-none test new none each entries (stronger best (gives entry)))
  ]

  drop-none : (test : Entry → Bool) → ((entry : Entry) → test entry ≡ true → gives entry ≡ None) → (entries : List Entry) (best : Option Candidate) →
      best_of best (drop_by test entries) ≡ best_of best entries
  drop-none test each [] best = refl
  drop-none test each (entry ∷ entries) best = elim (cases_Bool (test entry)) [
    | inl is ↦ rw is (rw (each entry is) refl)
    | inr isnt ↦ rw isnt (drop-none test each entries (stronger best (gives entry)))
  ]

-- another list of entries with the same winner
wins-same : (styles : List Style) (uses : List Use) (locals old : List Entry) (states : ℕ) (prop : Prop) →
    ((best : Option Candidate) → best_of (of_entry Main states prop) best locals ≡ best_of (of_entry Main states prop) best old) →
    winning styles uses locals Main states prop ≡ winning styles uses old Main states prop
wins-same styles uses locals old states prop same =
    let used = map (of_use styles Main states prop) uses in
    ap (option_map (λ (c : Candidate). c.value))
    (fold-append stronger None used (map (of_entry Main states prop) locals)
    ∙ same (fold stronger None used)
    ∙ sym (fold-append stronger None used (map (of_entry Main states prop) old)))

-- a list of lists with another one at a place
set-cases : (lists : List (List Entry)) (h j : ℕ) (xs : List Entry) →
    (slice_index_or (slice_set lists h xs) j [] ≡ slice_index_or lists j []) ⊎ ((j ≡ h) × (slice_index_or (slice_set lists h xs) j [] ≡ xs))
set-cases lists h j xs = elim (eqb_tells j h) [
  | inl is ↦ elim (cases_lt h (length lists)) [
    | inl within ↦ inr (is.1, ap (λ i. slice_index_or (slice_set lists h xs) i []) is.1 ∙ get_or-set_same lists h xs [] within)
    | inr past ↦ inl (ap (λ l. slice_index_or l j []) (set_past lists h xs past))
  ]
  | inr isnt ↦ inl (get_or-set_other lists h j xs [] isnt.1)
]

module _ (scene : Scene) (h : ℕ) (selector : Selector) (p : Prop) (off : goes_by_set selector p ≡ false) (k : ℕ) (q : Prop) (on : goes_by q ≡ true) where
  -- an entry for this selector and property gives a main part nothing that layout goes by
  gives-none : (entry : Entry) → entry.prop ≡ p → entry.part ≡ selector.part → (states : ℕ) → of_entry Main states q entry ≡ None
  gives-none entry prop part states =
      let unset : (same_prop entry.prop q && applies Main states (selector_of entry)) ≡ false = false_from_ne_true _ (λ is.
      let parts = and_parts (same_prop entry.prop q) (applies Main states (selector_of entry)) is in
      let main : same_part selector.part Main ≡ true = ap (λ (a : Part). same_part a Main) (sym part) ∙ (and_parts (same_part entry.part Main) (is_subset entry.states states) parts.1).0 in
      let laid : goes_by p ≡ true = ap goes_by (sym prop ∙ prop-is entry.prop q parts.0) ∙ on in
      both_ways (goes_by_set selector p) off (and_from _ _ main laid)) in
      rw unset refl

  for-none : (entry : Entry) → is_for selector p entry ≡ true → (states : ℕ) → of_entry Main states q entry ≡ None
  for-none entry passes states =
      let parts = and_parts (same_prop entry.prop p) _ passes in
      let part = same_true part.the_type tt entry.part selector.part (and_parts (same_part entry.part selector.part) _ parts.1).0 in
      gives-none entry (prop-is entry.prop p parts.0) part states

  -- other entries at h, that give what the old ones gave
  values-by : (entries : List Entry) → ((states : ℕ) (best : Option Candidate) → best_of (of_entry Main states q) best entries ≡ best_of (of_entry Main states q) best (locals_of scene.book h)) →
      value (record scene { book = record (scene.book) { locals = slice_set scene.book.locals h entries } }) k Main q ≡ value scene k Main q
  values-by entries same = value-main scene.book.styles (styled_of after) (styled_of scene.book) q each (path_at scene k) where
    after : Book
    after = record (scene.book) { locals = slice_set scene.book.locals h entries }

    by : (object : Object) → (locals_of after object.handle ≡ locals_of scene.book object.handle) ⊎ ((object.handle ≡ h) × (locals_of after object.handle ≡ entries)) →
        won scene.book.styles (styled_of after object) Main q ≡ won scene.book.styles (styled_of scene.book object) Main q
    by object (inl stay) = ap (λ l. winning scene.book.styles (uses_of scene.book object.handle) l Main object.row.states q) stay
    by object (inr here) =
        ap (λ l. winning scene.book.styles (uses_of scene.book object.handle) l Main object.row.states q) here.1
        ∙ wins-same scene.book.styles (uses_of scene.book object.handle) entries (locals_of scene.book h) object.row.states q (same object.row.states)
        ∙ ap (λ j. winning scene.book.styles (uses_of scene.book object.handle) (locals_of scene.book j) Main object.row.states q) (sym here.0)

    each : (object : Object) → MainSame scene.book.styles (styled_of after) (styled_of scene.book) q object
    each object = record { kind = refl; states = refl; wins = by object (set-cases scene.book.locals h object.handle entries) }

  pub values-local : (n : ℤ) → value (record scene { book = with_local scene.book h (an_entry selector p n) }) k Main q ≡ value scene k Main q
  values-local n =
      let new = an_entry selector p n in
      values-by (put_by (is_for (selector_of new) p) new (locals_of scene.book h))
      (λ states best. put-none (of_entry Main states q) (is_for (selector_of new) p) new (gives-none new refl refl states) (λ entry passes. for-none entry passes states) (locals_of scene.book h) best)

  pub values-unlocal : value (record scene { book = without_local scene.book h selector p }) k Main q ≡ value scene k Main q
  values-unlocal =
      values-by (drop_by (is_for selector p) (locals_of scene.book h))
      (λ states best. drop-none (of_entry Main states q) (is_for selector p) (λ entry passes. for-none entry passes states) (locals_of scene.book h) best)
