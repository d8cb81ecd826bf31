-- What a contract sees once a list of `Styles` has changed.
use Rattle.std.proofs.Common.{◌≡◌, ◌≢◌, ℕ, zero, suc, ◌+◌, ◌-◌, ◌<◌, ◌≤◌, true, false, eqb, is_some, List, [], ◌∷◌, ◌++◌, length, map, set, slice_get, IfSome, take, drop, Some, None, ℤ, inl, inr, refl, sym, ap, ◌∙◌, subst, arith, length-set}
use Rattle.std.specs.List.{remove}
use Rattle.std.proofs.lemmas.Bool.{and_parts, cases_Bool, eqb-true, eqb-false}
use Rattle.std.proofs.lemmas.List.{get_or-take, get_or-set_same, get_or-set_other, take-set-le, map-set, map-append, take-map, drop-map, length-map}
use Rattle.gui_pool.specs.Lists.{Lists, list_of, pushed, replaced, removed}
use Rattle.gui_pool.specs.Table.{Table, value_at, value_inserted}
use Rattle.gui_base.specs.declared.props.Prop.{Prop}
use Rattle.gui_base.specs.declared.words.Selector.{Selector}
use Rattle.gui_base.specs.Words.{same_selector}
use Rattle.style_defs.specs.declared.Entry.{Entry}
use Rattle.style_defs.specs.declared.Setting.{Setting}
use Rattle.style_defs.specs.declared.Use.{Use}
use Rattle.style_defs.specs.Cascade.{has_style, sets, settings_of, selector_of}
use Rattle.style_defs.specs.Firsts.{place_by, put_by, drop_by}
use Rattle.style_defs.specs.Book.{locals_of, uses_of, is_for, is_use, an_entry, a_setting, inserted, with_settings}
use Rattle.gui_style.specs.Styles.{Styles, with_style, with_prop, without_prop, without_use, with_local, without_local, forgotten}
use Rattle.gui_style.specs.Kept.{first_style, setting_in, style_in, keys_from, styles_of, AreStyles}
use Rattle.gui_style.specs.Filed.{has_prop}
use Rattle.gui_style.proofs.OfProp.{placed, place_mapped}
use Rattle.gui_style.proofs.Answers.{local_at, with_there, with_more, without_there, setting_at, no_setting, with_prop_there, with_prop_more, use_at, without_use_there}
use Rattle.gui_style.proofs.Shared.{nothing_there, has_made, settings_made, styles_more}

take-set_all : {A : Type 0} (n : ℕ) (xs : List A) (h : ℕ) (y : A) → take n (set xs h y) ≡ set (take n xs) h y
take-set_all zero xs h y = refl
take-set_all (suc n) [] h y = refl
take-set_all (suc n) (x ∷ xs) zero y = refl
take-set_all (suc n) (x ∷ xs) (suc h) y = ap (λ ys. x ∷ ys) (take-set_all n xs h y)

-- another list for an owner, and another number of values that fit
abbrev with_entries : Lists Entry → ℕ → List Entry → ℕ → Lists Entry
with_entries t owner ys spare = record { lists = set t.lists owner ys; spare = spare; size = t.size }

module _ (made : Table (Unit {0})) (entries : Lists Entry) (uses : Lists Use) (kept : AreStyles made entries uses) where
  abbrev view : Styles
  view = styles_of made entries uses

  abbrev numbers : List ℕ
  numbers = keys_from 0 made.values

  -- Another list of an object.
  module _ (h : ℕ) (within : h < 65536) where
    pub here : locals_of view.book h ≡ list_of entries h
    here = get_or-take (length uses.lists) entries.lists h [] (let long = kept.handles in omega arith)

    module _ (ys : List Entry) (spare : ℕ) where
      other_owner : (number : ℕ) → list_of (with_entries entries h ys spare) (first_style + number) ≡ list_of entries (first_style + number)
      other_owner number =
          let other : first_style + number ≢ h = omega arith in get_or-set_other entries.lists h (first_style + number) ys [] other

      object_view : styles_of made (with_entries entries h ys spare) uses ≡ record view { book = record view.book { locals = set view.book.locals h ys }; spare_entries = spare }
      object_view =
          λ i. record {
            book = record {
              styles = map (λ number. record { number = number; settings = map setting_in (other_owner number i) }) numbers;
              locals = take-set_all (length uses.lists) entries.lists h ys i;
              uses = uses.lists;
            };
            spare_styles = made.spare;
            spare_entries = spare;
            spare_uses = uses.spare;
          }

    module _ (now : Styles) (is : view ≡ now) (selector : Selector) (prop : Prop) where
      module _ (k : ℕ) (e : Some k ≡ place_by (is_for selector prop) (locals_of now.book h)) where
        at_view : Some k ≡ place_by (is_for selector prop) (locals_of view.book h)
        at_view = e ∙ ap (λ s. place_by (is_for selector prop) (locals_of s.book h)) (sym is)

        pub local_there : k < length (list_of entries h)
        local_there = subst (λ es. k < length es) here ((local_at view h selector prop k at_view).within)

        -- what stands there is of the property
        pub local_placed : IfSome (slice_get (list_of entries h) k) (λ e. has_prop prop e ≡ true)
        local_placed = placed (is_for selector prop) (has_prop prop) (λ e is. (and_parts (has_prop prop e) (same_selector (selector_of e) selector) is).0) (list_of entries h) k (ap (place_by (is_for selector prop)) (sym here) ∙ sym at_view)

        pub local_replaced : (value : ℤ) → styles_of made (replaced entries h k (an_entry selector prop value)) uses ≡ with_local now h (an_entry selector prop value)
        local_replaced value =
            let entry : Entry = an_entry selector prop value in
            object_view (set (list_of entries h) k entry) entries.spare
            ∙ ap (λ es. record view { book = record view.book { locals = set view.book.locals h (set es k entry) } }) (sym here)
            ∙ sym (with_there view h selector prop k at_view value)
            ∙ ap (λ s. with_local s h entry) is

        pub local_removed : styles_of made (removed entries h k) uses ≡ without_local now h selector prop
        local_removed =
            object_view (remove (list_of entries h) k) (entries.spare + 1)
            ∙ ap (λ es. record view { book = record view.book { locals = set view.book.locals h (remove es k) }; spare_entries = entries.spare + 1 }) (sym here)
            ∙ sym (without_there view h selector prop k at_view)
            ∙ ap (λ s. without_local s h selector prop) is

      module _ (e : None ≡ place_by (is_for selector prop) (locals_of now.book h)) where
        pub local_pushed : (value : ℤ) → styles_of made (pushed entries h (an_entry selector prop value)) uses ≡ with_local now h (an_entry selector prop value)
        local_pushed value =
            let entry : Entry = an_entry selector prop value in
            let at : None ≡ place_by (is_for selector prop) (locals_of view.book h) = e ∙ ap (λ s. place_by (is_for selector prop) (locals_of s.book h)) (sym is) in
            object_view (list_of entries h ++ entry ∷ []) (entries.spare - 1)
            ∙ ap (λ es. record view { book = record view.book { locals = set view.book.locals h (es ++ entry ∷ []) }; spare_entries = entries.spare - 1 }) (sym here)
            ∙ sym (with_more view h selector prop at value)
            ∙ ap (λ s. with_local s h entry) is

    pub all_forgotten : (now : Styles) → view ≡ now → styles_of made (with_entries entries h [] (entries.spare + length (list_of entries h))) (record { lists = set uses.lists h []; spare = uses.spare + length (list_of uses h); size = uses.size }) ≡ forgotten now h
    all_forgotten now is =
        let left : Styles → Styles = λ s. record s { book = record s.book { uses = set uses.lists h [] }; spare_uses = uses.spare + length (list_of uses h) } in
        let spare : ℕ = entries.spare + length (list_of entries h) in
        ap (λ n. record (styles_of made (with_entries entries h [] spare) uses) { book = record (styles_of made (with_entries entries h [] spare) uses).book { locals = take n (set entries.lists h []); uses = set uses.lists h [] }; spare_uses = uses.spare + length (list_of uses h) }) (length-set uses.lists h [])
        ∙ ap left (object_view [] spare)
        ∙ ap (λ es. record (left (record view { book = record view.book { locals = set view.book.locals h [] } })) { spare_entries = entries.spare + length es }) (sym here)
        ∙ ap (λ s. forgotten s h) is

  -- Another list of a shared style.
  module _ (number : ℕ) (within : number < 65536) where
    abbrev mine : List Entry
    mine = list_of entries (first_style + number)

    own : first_style + number < length entries.lists
    own = let long = kept.owners in omega arith

    settings : settings_of view.book.styles number ≡ map setting_in mine
    settings = settings_made made entries number (kept.unmade number)

    module _ (ys : List Entry) (spare : ℕ) (f : List Setting → List Setting) (same : map setting_in ys ≡ f (map setting_in mine)) where
      abbrev new : Lists Entry
      new = with_entries entries (first_style + number) ys spare

      one_style : (n : ℕ) → style_in new n ≡ with_settings number f (style_in entries n)
      one_style n =
          elim (cases_Bool (eqb n number)) [
            | inl equal ↦
                let at : n ≡ number = eqb-true n number equal in
                let its : map setting_in (list_of new (first_style + n)) ≡ f (map setting_in (list_of entries (first_style + n))) = ap (λ m. map setting_in (list_of new (first_style + m))) at ∙ ap (map setting_in) (get_or-set_same entries.lists (first_style + number) ys [] own) ∙ same ∙ ap (λ m. f (map setting_in (list_of entries (first_style + m)))) (sym at) in
                rw equal (λ i. record { number = n; settings = its i })
            | inr differs ↦
                let ne = eqb-false n number differs in
                let other : first_style + n ≢ first_style + number = λ e. ne (omega arith) in
                rw differs (λ i. record { number = n; settings = map setting_in (get_or-set_other entries.lists (first_style + number) (first_style + n) ys [] other i) })
          ]

      all_styles : (ns : List ℕ) → map (style_in new) ns ≡ map (with_settings number f) (map (style_in entries) ns)
      all_styles [] = refl
      all_styles (n ∷ ns) = λ i. one_style n i ∷ all_styles ns i

      style_view : styles_of made new uses ≡ record view { book = record view.book { styles = map (with_settings number f) view.book.styles }; spare_entries = spare }
      style_view =
          let most : length uses.lists ≤ first_style + number = let long = kept.handles in omega arith in
          λ i. record {
            book = record {
              styles = all_styles numbers i;
              locals = take-set-le (length uses.lists) entries.lists (first_style + number) ys most i;
              uses = uses.lists;
            };
            spare_styles = made.spare;
            spare_entries = spare;
            spare_uses = uses.spare;
          }

    module _ (now : Styles) (is : view ≡ now) (prop : Prop) where
      module _ (k : ℕ) (e : Some k ≡ place_by (sets prop) (settings_of now.book.styles number)) where
        setting_at_view : Some k ≡ place_by (sets prop) (settings_of view.book.styles number)
        setting_at_view = e ∙ ap (λ s. place_by (sets prop) (settings_of s.book.styles number)) (sym is)

        pub setting_there : k < length mine
        setting_there =
            let lt = subst (λ ss. k < length ss) settings ((setting_at view number prop k setting_at_view).within) in
            omega (arith, length-map mine setting_in)

        pub setting_placed : IfSome (slice_get mine k) (λ e. has_prop prop e ≡ true)
        setting_placed = placed (has_prop prop) (has_prop prop) (λ e is. is) mine k (sym (place_mapped (sets prop) setting_in mine) ∙ ap (place_by (sets prop)) (sym settings) ∙ sym setting_at_view)

        pub prop_replaced : (selector : Selector) (value : ℤ) → styles_of made (replaced entries (first_style + number) k (an_entry selector prop value)) uses ≡ with_prop now number (a_setting prop value)
        prop_replaced selector value =
            let put = (setting_at view number prop k setting_at_view).put (a_setting prop value) in
            let same = map-set setting_in mine k (an_entry selector prop value) ∙ ap (λ ss. set ss k (a_setting prop value)) (sym settings) ∙ sym put ∙ ap (put_by (sets prop) (a_setting prop value)) settings in
            style_view (set mine k (an_entry selector prop value)) entries.spare (put_by (sets prop) (a_setting prop value)) same
            ∙ sym (with_prop_there view number prop k setting_at_view value)
            ∙ ap (λ s. with_prop s number (a_setting prop value)) is

        pub prop_removed : styles_of made (removed entries (first_style + number) k) uses ≡ without_prop now number prop
        prop_removed =
            let dropped = (setting_at view number prop k setting_at_view).dropped in
            let less = map-append setting_in (take k mine) (drop (suc k) mine) ∙ (λ i. sym (take-map setting_in k mine) i ++ sym (drop-map setting_in (suc k) mine) i) in
            let same = less ∙ ap (λ ss. remove ss k) (sym settings) ∙ sym dropped ∙ ap (drop_by (sets prop)) settings in
            style_view (remove mine k) (entries.spare + 1) (drop_by (sets prop)) same ∙ ap (λ s. without_prop s number prop) is

      module _ (e : None ≡ place_by (sets prop) (settings_of now.book.styles number)) where
        pub prop_pushed : (selector : Selector) (value : ℤ) → styles_of made (pushed entries (first_style + number) (an_entry selector prop value)) uses ≡ with_prop now number (a_setting prop value)
        prop_pushed selector value =
            let at : None ≡ place_by (sets prop) (settings_of view.book.styles number) = e ∙ ap (λ s. place_by (sets prop) (settings_of s.book.styles number)) (sym is) in
            let put = (no_setting view number prop at).put (a_setting prop value) in
            let same = map-append setting_in mine (an_entry selector prop value ∷ []) ∙ ap (λ ss. ss ++ a_setting prop value ∷ []) (sym settings) ∙ sym put ∙ ap (put_by (sets prop) (a_setting prop value)) settings in
            style_view (mine ++ an_entry selector prop value ∷ []) (entries.spare - 1) (put_by (sets prop) (a_setting prop value)) same
            ∙ sym (with_prop_more view number prop at value)
            ∙ ap (λ s. with_prop s number (a_setting prop value)) is

    -- a style that is there may set more
    pub more_kept : (value : Entry) → has_style view.book.styles number ≡ true → AreStyles made (pushed entries (first_style + number) value) uses
    more_kept value has = record {
      numbers = kept.numbers;
      owners = length-set entries.lists (first_style + number) (mine ++ value ∷ []) ∙ kept.owners;
      handles = kept.handles;
      unmade = λ n none.
          let ne : n ≢ number = λ e. let there : true ≡ false = sym has ∙ has_made made entries number ∙ ap (λ m. is_some (value_at made m)) (sym e) ∙ ap is_some none in cc in
          let other : first_style + n ≢ first_style + number = λ e. ne (omega arith) in
          get_or-set_other entries.lists (first_style + number) (first_style + n) (mine ++ value ∷ []) [] other ∙ kept.unmade n none;
    }

    pub style_vacant : (now : Styles) → view ≡ now → has_style now.book.styles number ≡ false → value_at made number ≡ None
    style_vacant now is free = nothing_there (value_at made number) (sym (has_made made entries number) ∙ ap (λ s. has_style s.book.styles number) is ∙ free)

    pub style_inserted : (now : Styles) → view ≡ now → has_style now.book.styles number ≡ false → styles_of (value_inserted made number tt) entries uses ≡ with_style now number
    style_inserted now is free =
        let none = style_vacant now is free in
        let more = styles_more made entries number tt (let long = kept.numbers in omega arith) none in
        (λ i. record view { book = record view.book { styles = more i }; spare_styles = made.spare - 1 })
        ∙ ap (λ es. record view { book = record view.book { styles = inserted (record { number = number; settings = map setting_in es }) view.book.styles }; spare_styles = made.spare - 1 }) (kept.unmade number none)
        ∙ ap (λ s. with_style s number) is

  -- A style that an object uses.
  module _ (h : ℕ) (u : Use) (now : Styles) (is : view ≡ now) (k : ℕ) (e : Some k ≡ place_by (is_use u) (uses_of now.book h)) where
    pub use_there : k < length (list_of uses h)
    use_there = subst (λ (s : Styles). k < length (uses_of s.book h)) (sym is) ((use_at now h u k e).within)

    pub use_removed : styles_of made entries (removed uses h k) ≡ without_use now h u
    use_removed =
        ap (λ n. record view { book = record view.book { locals = take n entries.lists; uses = set uses.lists h (remove (list_of uses h) k) }; spare_uses = uses.spare + 1 }) (length-set uses.lists h (remove (list_of uses h) k))
        ∙ ap (λ (s : Styles). record s { book = record s.book { uses = set s.book.uses h (remove (uses_of s.book h) k) }; spare_uses = s.spare_uses + 1 }) is
        ∙ sym (without_use_there now h u k e)
