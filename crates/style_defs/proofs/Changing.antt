-- What each change of a book keeps, takes and frees.
use Rattle.std.proofs.Common.{◌≡◌, ◌≤◌, ◌<◌, ◌∙◌, refl, ℕ, ◌+◌, Bool, true, false, is_some, List, [], ◌∷◌, ◌++◌, length, map, sum_by, inl, inr, arith, eqb, subst, length-append, length-set}
use Rattle.std.specs.Prelude.{if◌then◌else◌, slice_set, slice_index_or}
use Rattle.std.specs.List.{All, list_any}
use Rattle.std.proofs.lemmas.Bool.{cases_Bool, cases_lt, eqb-true, eqb-false}
use Rattle.std.proofs.lemmas.List.{get_or-set_same, get_or-set_other, get_or_past, set_past}
use Rattle.std.proofs.lemmas.List.Elements.{All-nil, All-get_or, All-push}
use Rattle.gui_base.specs.declared.props.Prop.{Prop}
use Rattle.gui_base.specs.declared.words.Selector.{Selector}
use Rattle.style_defs.specs.declared.Entry.{Entry}
use Rattle.style_defs.specs.declared.Setting.{Setting}
use Rattle.style_defs.specs.declared.Use.{Use}
use Rattle.style_defs.specs.Book.{Book, locals_of, uses_of, entries_in, uses_in, with_settings, has_setting, with_style, with_prop, without_prop, with_use, without_use, with_local, without_local, forgotten, all_forgotten, is_for, is_use, has_use, has_local}
use Rattle.style_defs.specs.Cascade.{Style, has_style, sets, settings_of, selector_of}
use Rattle.style_defs.specs.Firsts.{first_by, put_by, drop_by}
use Rattle.style_defs.specs.InOrder.{IsBook, IsBare, IsSetting, IsEntry, IsUsed}
use Rattle.style_defs.proofs.Counting.{length-put_by, length-drop_by, length-inserted, settings-inserted, settings-changed, lengths-set}
use Rattle.style_defs.proofs.Keeping.{All-put_by, All-drop_by, style_keeps, settings_keep, locals_keep, uses_keep}

-- A book in order after a change, which takes so many slots and frees so many, and gives nothing to an object that it
-- does not name.
pub record Becomes (book after : Book) (named : ℕ → Bool) (styles entries uses entries_freed uses_freed : ℕ) : Type 0 where
  pub in_order : IsBook after
  pub styles_left : length after.styles ≡ length book.styles + styles
  pub entries_left : entries_in after + entries_freed ≡ entries_in book + entries
  pub uses_left : uses_in after + uses_freed ≡ uses_in book + uses
  pub bare : (k : ℕ) → named k ≡ false → IsBare book k → IsBare after k

abbrev pub nobody : ℕ → Bool
nobody k = false

module _ (book : Book) (in_order : IsBook book) where
  -- other entries of an object
  with_locals : (h need freed : ℕ) (entries : List Entry) → h < 65536 → All IsEntry entries → length entries + freed ≡ length (locals_of book h) + need →
      Becomes book (record book { locals = slice_set book.locals h entries }) (λ k. eqb k h) 0 need 0 freed 0
  with_locals h need freed entries within all count = record {
    in_order = locals_keep book in_order h entries all;
    styles_left = omega arith;
    entries_left = let sum = lengths-set book.locals h entries (omega (arith, in_order.local_places)) in omega (arith, sum, count);
    uses_left = refl;
    bare = λ k other b. record { locals = get_or-set_other book.locals h k entries [] (eqb-false k h other) ∙ b.locals; uses = b.uses };
  }

  -- other uses of an object
  with_uses : (h need freed : ℕ) (uses : List Use) → h < 65536 → All (IsUsed book.styles) uses → length uses + freed ≡ length (uses_of book h) + need →
      Becomes book (record book { uses = slice_set book.uses h uses }) (λ k. eqb k h) 0 0 need 0 freed
  with_uses h need freed uses within all count = record {
    in_order = uses_keep book in_order h uses all;
    styles_left = omega arith;
    entries_left = refl;
    uses_left = let sum = lengths-set book.uses h uses (omega (arith, in_order.use_places)) in omega (arith, sum, count);
    bare = λ k other b. record { locals = b.locals; uses = get_or-set_other book.uses h k uses [] (eqb-false k h other) ∙ b.uses };
  }

  -- other settings of a style
  with_others : (number need freed : ℕ) (f : List Setting → List Setting) → has_style book.styles number ≡ true → ((settings : List Setting) → All IsSetting settings → All IsSetting (f settings)) →
      length (f (settings_of book.styles number)) + freed ≡ length (settings_of book.styles number) + need →
      Becomes book (record book { styles = map (with_settings number f) book.styles }) nobody 0 need 0 freed 0
  with_others number need freed f there keeps count = record {
    in_order = settings_keep book in_order number f keeps;
    styles_left = length-map_settings book.styles;
    entries_left = let sum = settings-changed number f book.styles in_order.ordered there in omega (arith, sum, count);
    uses_left = refl;
    bare = λ k other b. record { locals = b.locals; uses = b.uses };
  } where
    length-map_settings : (styles : List Style) → length (map (with_settings number f) styles) ≡ length styles + 0
    length-map_settings [] = refl
    length-map_settings (style ∷ styles) = omega (arith, length-map_settings styles)

  pub style_becomes : (number : ℕ) → has_style book.styles number ≡ false → Becomes book (with_style book number) nobody 1 0 0 0 0
  style_becomes number none = record {
    in_order = style_keeps book in_order number none;
    styles_left = length-inserted (record { number = number; settings = [] }) book.styles;
    entries_left = omega (arith, settings-inserted (record { number = number; settings = [] }) book.styles);
    uses_left = refl;
    bare = λ k other b. record { locals = b.locals; uses = b.uses };
  }

  pub prop_becomes : (number : ℕ) (setting : Setting) → has_style book.styles number ≡ true → IsSetting setting → Becomes book (with_prop book number setting) nobody 0 (if has_setting book number setting.prop then 0 else 1) 0 0 0
  prop_becomes number setting there fits =
      with_others number _ 0 (put_by (sets setting.prop) setting) there (λ settings all. All-put_by IsSetting (sets setting.prop) setting settings fits all)
      (omega (arith, length-put_by (sets setting.prop) setting (settings_of book.styles number)))

  pub unset_becomes : (number : ℕ) (prop : Prop) → has_setting book number prop ≡ true → Becomes book (without_prop book number prop) nobody 0 0 0 1 0
  unset_becomes number prop set =
      with_others number 0 1 (drop_by (sets prop)) (has_one book.styles set) (λ settings all. All-drop_by IsSetting (sets prop) settings all)
      (omega (arith, length-drop_by (sets prop) (settings_of book.styles number) set)) where
        has_one : (styles : List Style) → is_some (first_by (sets prop) (settings_of styles number)) ≡ true → has_style styles number ≡ true
        has_one [] e = cc
        has_one (style ∷ styles) e = elim (cases_Bool (eqb style.number number)) [
          | inl is ↦ rw is refl
          | inr isnt ↦ rw isnt (has_one styles (rw isnt at e))
        ]

  fits_at : (h : ℕ) → h < 65536 → All IsEntry (locals_of book h)
  fits_at h within = All-get_or (All IsEntry) book.locals h [] (omega (arith, in_order.local_places)) in_order.locals

  pub local_becomes : (h : ℕ) (entry : Entry) → h < 65536 → IsEntry entry → Becomes book (with_local book h entry) (λ k. eqb k h) 0 (if has_local book h (selector_of entry) entry.prop then 0 else 1) 0 0 0
  local_becomes h entry within fits =
      let test = is_for (selector_of entry) entry.prop in
      with_locals h _ 0 (put_by test entry (locals_of book h)) within (All-put_by IsEntry test entry (locals_of book h) fits (fits_at h within))
      (omega (arith, length-put_by test entry (locals_of book h)))

  pub unlocal_becomes : (h : ℕ) (selector : Selector) (prop : Prop) → h < 65536 → has_local book h selector prop ≡ true → Becomes book (without_local book h selector prop) (λ k. eqb k h) 0 0 0 1 0
  unlocal_becomes h selector prop within set =
      let test = is_for selector prop in
      with_locals h 0 1 (drop_by test (locals_of book h)) within (All-drop_by IsEntry test (locals_of book h) (fits_at h within))
      (omega (arith, length-drop_by test (locals_of book h) set))

  used_at : (h : ℕ) → h < 65536 → All (IsUsed book.styles) (uses_of book h)
  used_at h within = All-get_or (All (IsUsed book.styles)) book.uses h [] (omega (arith, in_order.use_places)) in_order.used

  pub use_becomes : (h : ℕ) (u : Use) → h < 65536 → IsUsed book.styles u → Becomes book (with_use book h u) (λ k. eqb k h) 0 0 1 0 0
  use_becomes h u within there =
      with_uses h 1 0 (uses_of book h ++ u ∷ []) within (All-push (IsUsed book.styles) (uses_of book h) u (used_at h within) there)
      (omega (arith, length-append (uses_of book h) (u ∷ [])))

  pub unuse_becomes : (h : ℕ) (u : Use) → h < 65536 → has_use book h u ≡ true → Becomes book (without_use book h u) (λ k. eqb k h) 0 0 0 0 1
  unuse_becomes h u within set =
      with_uses h 0 1 (drop_by (is_use u) (uses_of book h)) within (All-drop_by (IsUsed book.styles) (is_use u) (uses_of book h) (used_at h within))
      (omega (arith, length-drop_by (is_use u) (uses_of book h) set))

-- What an object had is gone, and who had nothing has nothing.
cleared : {A : Type 0} (lists : List (List A)) (h : ℕ) → slice_index_or (slice_set lists h []) h [] ≡ []
cleared lists h = elim (cases_lt h (length lists)) [
  | inl within ↦ get_or-set_same lists h [] [] within
  | inr past ↦ get_or_past (slice_set lists h []) h [] (omega (arith, past, length-set lists h []))
]

still_empty : {A : Type 0} (lists : List (List A)) (h k : ℕ) → slice_index_or lists k [] ≡ [] → slice_index_or (slice_set lists h []) k [] ≡ []
still_empty lists h k e = elim (cases_Bool (eqb k h)) [
  | inl same ↦ rw (eqb-true k h same) (cleared lists h)
  | inr other ↦ get_or-set_other lists h k [] [] (eqb-false k h other) ∙ e
]

fewer : {A : Type 0} (lists : List (List A)) (h : ℕ) → sum_by length (slice_set lists h []) ≤ sum_by length lists
fewer lists h = elim (cases_lt h (length lists)) [
  | inl within ↦ let sum = lengths-set lists h [] within in omega (arith, sum)
  | inr past ↦ rw (set_past lists h [] past) (omega arith)
]

-- what is left once so many have been forgotten
pub record Forgets (book after : Book) (handles : List ℕ) : Type 0 where
  pub in_order : IsBook book → IsBook after
  pub styles_left : after.styles ≡ book.styles
  pub entries_left : entries_in after ≤ entries_in book
  pub uses_left : uses_in after ≤ uses_in book
  pub stays : (k : ℕ) → IsBare book k → IsBare after k
  pub gone : (k : ℕ) → list_any (λ h. eqb h k) handles ≡ true → IsBare after k

pub all_forgets : (handles : List ℕ) (book : Book) → Forgets book (all_forgotten book handles) handles
all_forgets [] book = record {
  in_order = λ o. o;
  styles_left = refl;
  entries_left = omega arith;
  uses_left = omega arith;
  stays = λ k b. b;
  gone = λ k e. cc;
}
all_forgets (h ∷ handles) book =
    let one = forgotten book h in
    let rest = all_forgets handles one in
    let entries = fewer book.locals h in
    let uses = fewer book.uses h in record {
      in_order = λ o. rest.in_order (locals_and_uses o);
      styles_left = rest.styles_left;
      entries_left = omega (arith, rest.entries_left, entries);
      uses_left = omega (arith, rest.uses_left, uses);
      stays = λ k b. rest.stays k (record { locals = still_empty book.locals h k b.locals; uses = still_empty book.uses h k b.uses });
      gone = λ k e. elim (cases_Bool (eqb h k)) [
        | inl same ↦ rest.stays k (subst (IsBare one) (eqb-true h k same) (record { locals = cleared book.locals h; uses = cleared book.uses h }))
        | inr other ↦ rest.gone k (rw other at e)
      ];
    } where
      locals_and_uses : IsBook book → IsBook (forgotten book h)
      locals_and_uses o = uses_keep (record book { locals = slice_set book.locals h [] }) (locals_keep book o h [] (All-nil IsEntry)) h [] (All-nil (IsUsed book.styles))
