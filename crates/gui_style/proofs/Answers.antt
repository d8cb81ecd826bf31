-- What calls answer and leave, by the place at which a walk found what it looked for.
use Rattle.std.proofs.Common.{◌≡◌, ℕ, suc, ◌+◌, ◌-◌, Bool, true, false, cond, not, is_some, List, [], ◌∷◌, ◌++◌, map, set, option_map, Option, Some, None, ℤ, Ok, Err, inl, inr, refl, sym, ap, ◌∙◌, arith}
use Rattle.std.specs.List.{remove}
use Rattle.std.proofs.lemmas.Bool.{cases_Bool, ne_eqb}
use Rattle.gui_base.specs.declared.limits.Pool.{Pool}
use Rattle.gui_base.specs.declared.limits.Pool.TheVariants.{Entries, Uses}
use Rattle.gui_base.specs.declared.refusal.Refusal.TheVariants.{Unknown, Taken, Full}
use Rattle.gui_base.specs.declared.props.Prop.{Prop}
use Rattle.gui_base.specs.declared.words.Selector.{Selector}
use Rattle.style_defs.specs.declared.Entry.{Entry}
use Rattle.style_defs.specs.declared.Setting.{Setting}
use Rattle.style_defs.specs.declared.Use.{Use}
use Rattle.style_defs.specs.Cascade.{has_style, sets, settings_of}
use Rattle.style_defs.specs.Firsts.{first_by, place_by, put_by}
use Rattle.style_defs.proofs.Places.{HasNone, HasAt, has_none, has_at}
use Rattle.style_defs.specs.Book.{locals_of, uses_of, is_for, is_use, an_entry, a_setting, has_local, has_setting, with_settings}
use Rattle.gui_style.specs.Styles.{Styles, full_answer, style_prop_answer, with_prop, unset_prop_answer, add_style_answer, remove_style_answer, without_use, set_local_answer, with_local, unset_local_answer, without_local}

shifted : (o : Option ℕ) → is_some (option_map suc o) ≡ is_some o
shifted None = refl
shifted (Some k) = refl

-- a place is there exactly where one passes
place_is : {A : Type 0} (test : A → Bool) (xs : List A) → is_some (place_by test xs) ≡ is_some (first_by test xs)
place_is test [] = refl
place_is test (x ∷ xs) =
    elim (cases_Bool (test x)) [
      | inl same ↦ rw same refl
      | inr other ↦ rw other (shifted (place_by test xs) ∙ place_is test xs)
    ]

-- one more fits, or none
pub has_room : (spare : ℕ) (pool : Pool) → (spare ≡ 0 → ⊥) → full_answer spare pool ≡ Ok tt
has_room spare pool some = let other = ne_eqb spare 0 some in rw other refl

pub no_room : (spare : ℕ) (pool : Pool) → spare ≡ 0 → full_answer spare pool ≡ Err (Full pool)
no_room spare pool none = rw none refl

less_none : (n : ℕ) → n - 0 ≡ n
less_none n = omega arith

-- A property that is set locally.
module _ (s : Styles) (h : ℕ) (selector : Selector) (prop : Prop) where
  abbrev test : Entry → Bool
  test = is_for selector prop

  abbrev locals : List Entry
  locals = locals_of s.book h

  module _ (k : ℕ) (e : Some k ≡ place_by test locals) where
    pub local_at : HasAt test locals k
    local_at = has_at test locals k (sym e)

    pub set_there : set_local_answer s h selector prop ≡ Ok tt
    set_there = ap (λ b. cond b (Ok tt) (full_answer s.spare_entries Entries)) local_at.first

    pub unset_there : unset_local_answer s h selector prop ≡ Ok tt
    unset_there = ap (λ b. cond b (Ok tt) (Err Unknown)) local_at.first

    pub with_there : (value : ℤ) → with_local s h (an_entry selector prop value) ≡ record s { book = record s.book { locals = set s.book.locals h (set locals k (an_entry selector prop value)) } }
    with_there value =
        let count : s.spare_entries - cond (has_local s.book h selector prop) 0 1 ≡ s.spare_entries = ap (λ b. s.spare_entries - cond b 0 1) local_at.first ∙ less_none s.spare_entries in
        λ i. record s { book = record s.book { locals = set s.book.locals h (local_at.put (an_entry selector prop value) i) }; spare_entries = count i }

    pub without_there : without_local s h selector prop ≡ record s { book = record s.book { locals = set s.book.locals h (remove locals k) }; spare_entries = s.spare_entries + 1 }
    without_there = λ i. record s { book = record s.book { locals = set s.book.locals h (local_at.dropped i) }; spare_entries = s.spare_entries + 1 }

  module _ (e : None ≡ place_by test locals) where
    no_local : HasNone test locals
    no_local = has_none test locals (sym e)

    pub set_none : set_local_answer s h selector prop ≡ full_answer s.spare_entries Entries
    set_none = ap (λ b. cond b (Ok tt) (full_answer s.spare_entries Entries)) no_local.first

    pub unset_none : unset_local_answer s h selector prop ≡ Err Unknown
    unset_none = ap (λ b. cond b (Ok tt) (Err Unknown)) no_local.first

    pub with_more : (value : ℤ) → with_local s h (an_entry selector prop value) ≡ record s { book = record s.book { locals = set s.book.locals h (locals ++ an_entry selector prop value ∷ []) }; spare_entries = s.spare_entries - 1 }
    with_more value =
        let count : s.spare_entries - cond (has_local s.book h selector prop) 0 1 ≡ s.spare_entries - 1 = ap (λ b. s.spare_entries - cond b 0 1) no_local.first in
        λ i. record s { book = record s.book { locals = set s.book.locals h (no_local.put (an_entry selector prop value) i) }; spare_entries = count i }

-- A property that a style sets.
module _ (s : Styles) (number : ℕ) (prop : Prop) where
  abbrev settings : List Setting
  settings = settings_of s.book.styles number

  module _ (k : ℕ) (e : Some k ≡ place_by (sets prop) settings) where
    pub setting_at : HasAt (sets prop) settings k
    setting_at = has_at (sets prop) settings k (sym e)

    pub prop_there : has_style s.book.styles number ≡ true → style_prop_answer s number prop ≡ Ok tt
    prop_there has =
        ap (λ b. cond (not b) (Err Unknown) (cond (has_setting s.book number prop) (Ok tt) (full_answer s.spare_entries Entries))) has
        ∙ ap (λ b. cond b (Ok tt) (full_answer s.spare_entries Entries)) setting_at.first

    pub unset_prop_there : unset_prop_answer s number prop ≡ Ok tt
    unset_prop_there = ap (λ b. cond b (Ok tt) (Err Unknown)) setting_at.first

    pub with_prop_there : (value : ℤ) → with_prop s number (a_setting prop value) ≡ record s { book = record s.book { styles = map (with_settings number (put_by (sets prop) (a_setting prop value))) s.book.styles } }
    with_prop_there value =
        let count : s.spare_entries - cond (has_setting s.book number prop) 0 1 ≡ s.spare_entries = ap (λ b. s.spare_entries - cond b 0 1) setting_at.first ∙ less_none s.spare_entries in
        λ i. record s { book = record s.book { styles = map (with_settings number (put_by (sets prop) (a_setting prop value))) s.book.styles }; spare_entries = count i }

  module _ (e : None ≡ place_by (sets prop) settings) where
    pub no_setting : HasNone (sets prop) settings
    no_setting = has_none (sets prop) settings (sym e)

    pub prop_none : has_style s.book.styles number ≡ true → style_prop_answer s number prop ≡ full_answer s.spare_entries Entries
    prop_none has =
        ap (λ b. cond (not b) (Err Unknown) (cond (has_setting s.book number prop) (Ok tt) (full_answer s.spare_entries Entries))) has
        ∙ ap (λ b. cond b (Ok tt) (full_answer s.spare_entries Entries)) no_setting.first

    pub unset_prop_none : unset_prop_answer s number prop ≡ Err Unknown
    unset_prop_none = ap (λ b. cond b (Ok tt) (Err Unknown)) no_setting.first

    pub with_prop_more : (value : ℤ) → with_prop s number (a_setting prop value) ≡ record s { book = record s.book { styles = map (with_settings number (put_by (sets prop) (a_setting prop value))) s.book.styles }; spare_entries = s.spare_entries - 1 }
    with_prop_more value =
        let count : s.spare_entries - cond (has_setting s.book number prop) 0 1 ≡ s.spare_entries - 1 = ap (λ b. s.spare_entries - cond b 0 1) no_setting.first in
        λ i. record s { book = record s.book { styles = map (with_settings number (put_by (sets prop) (a_setting prop value))) s.book.styles }; spare_entries = count i }

-- A style that an object uses.
module _ (s : Styles) (h : ℕ) (u : Use) where
  abbrev uses : List Use
  uses = uses_of s.book h

  pub add_taken : has_style s.book.styles u.style ≡ true → is_some (place_by (is_use u) uses) ≡ true → add_style_answer s h u ≡ Err Taken
  add_taken has there = rw (has, sym (place_is (is_use u) uses) ∙ there) refl

  pub add_full : has_style s.book.styles u.style ≡ true → is_some (place_by (is_use u) uses) ≡ false → add_style_answer s h u ≡ full_answer s.spare_uses Uses
  add_full has free = rw (has, sym (place_is (is_use u) uses) ∙ free) refl

  module _ (k : ℕ) (e : Some k ≡ place_by (is_use u) uses) where
    pub use_at : HasAt (is_use u) uses k
    use_at = has_at (is_use u) uses k (sym e)

    pub remove_there : remove_style_answer s h u ≡ Ok tt
    remove_there = ap (λ b. cond b (Ok tt) (Err Unknown)) use_at.first

    pub without_use_there : without_use s h u ≡ record s { book = record s.book { uses = set s.book.uses h (remove uses k) }; spare_uses = s.spare_uses + 1 }
    without_use_there = λ i. record s { book = record s.book { uses = set s.book.uses h (use_at.dropped i) }; spare_uses = s.spare_uses + 1 }

  pub remove_none : None ≡ place_by (is_use u) uses → remove_style_answer s h u ≡ Err Unknown
  remove_none e = let none = has_none (is_use u) uses (sym e) in ap (λ b. cond b (Ok tt) (Err Unknown)) none.first
