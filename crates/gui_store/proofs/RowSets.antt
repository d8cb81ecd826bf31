-- What the rows and the texts show, once the row of a handle is another.
use Rattle.std.proofs.Common.{◌≡◌, ◌≢◌, ◌<◌, ◌≤◌, ℕ, zero, suc, ◌+◌, ◌-◌, List, [], ◌∷◌, length, Option, None, Some, IfSome, option_map, unwrap_or, set, get_or, refl, sym, ap, ◌∙◌, subst, inl, inr, arith, length-set}
use Rattle.std.proofs.lemmas.Bool.{cases_eq, cases_lt}
use Rattle.std.proofs.lemmas.List.{get_or-set_same, get_or-set_other, get_or_past, ext_get_or, length-map}
use Rattle.gui_base.specs.declared.words.Kind.{Kind}
use Rattle.gui_pool.specs.Table.{Table, value_at, value_inserted, value_replaced, value_removed}
use Rattle.gui_pool.specs.Texts.{Texts, text_of, IsFree, put, dropped, need_of, need_in}
use Rattle.gui_pool.specs.declared.chains.TextId.{TextId}
use Rattle.gui_pool.proofs.Chained.{dropped-spare}
use Rattle.scene_defs.specs.Row.{new_row, shown_row}
use Rattle.scene_defs.specs.Deeds.{row_after}
use Rattle.scene_defs.specs.declared.Change.{Change}
use Rattle.scene_defs.specs.declared.Row.{Row}
use Rattle.gui_store.specs.RowSets.{chunks_of, text_replaced, without_row, with_text}
use Rattle.gui_store.specs.KeptRows.{kept_row, kept_rows, rows_in, name_in, name_at, IsShort, AreRows}
use Rattle.gui_store.proofs.RowTexts.{others-dropped, others-put, new-apart, stay}
use Rattle.gui_store.proofs.RowChanges.{text-after, shown-after}

shown-at : (t : Texts) (vs : List (Option Row)) (k : ℕ) → get_or (kept_rows t vs) k None ≡ option_map (kept_row t) (get_or vs k None)
shown-at t [] k = refl
shown-at t (v ∷ vs) zero = refl
shown-at t (v ∷ vs) (suc k) = shown-at t vs k

kept-alike : (t t' : Texts) (o : Option Row) → text_of t' (name_in o) ≡ text_of t (name_in o) → option_map (kept_row t') o ≡ option_map (kept_row t) o
kept-alike t t' None e = refl
kept-alike t t' (Some row) e = λ i. Some (record { row = shown_row row; text = unwrap_or (e i) [] })

-- another row or none at one handle
shown-set : (t t' : Texts) (vs : List (Option Row)) (h : ℕ) (o : Option Row) → ((k : ℕ) → k ≢ h → text_of t' (name_in (get_or vs k None)) ≡ text_of t (name_in (get_or vs k None))) → kept_rows t' (set vs h o) ≡ set (kept_rows t vs) h (option_map (kept_row t') o)
shown-set t t' vs h o others =
    let long = length-map vs (option_map (kept_row t)) in
    let long' = length-map (set vs h o) (option_map (kept_row t')) in
    let new = option_map (kept_row t') o in
    ext_get_or None (kept_rows t' (set vs h o)) (set (kept_rows t vs) h new)
    (long' ∙ length-set vs h o ∙ sym long ∙ sym (length-set (kept_rows t vs) h new))
    (λ k lt. let within : k < length vs = omega (arith, length-set vs h o) in elim (cases_eq k h) [
      | inl same ↦
          let here : h < length vs = omega arith in
          shown-at t' (set vs h o) k ∙ ap (λ j. option_map (kept_row t') (get_or (set vs h o) j None)) same ∙ ap (option_map (kept_row t')) (get_or-set_same vs h o None here)
          ∙ sym (ap (λ j. get_or (set (kept_rows t vs) h new) j None) same ∙ get_or-set_same (kept_rows t vs) h new None (omega arith))
      | inr ne ↦
          shown-at t' (set vs h o) k ∙ ap (option_map (kept_row t')) (get_or-set_other vs h k o None ne) ∙ kept-alike t t' (get_or vs k None) (others k ne)
          ∙ sym (get_or-set_other (kept_rows t vs) h k new None ne ∙ shown-at t vs k)
    ])

-- how many chunks a row's text has
need-kept : (o : Option (List ℕ)) → need_in o ≡ need_of (unwrap_or o [])
need-kept None = refl
need-kept (Some text) = refl

-- what is free once a text is put
put-spare : (t : Texts) (id : ℕ) (text : List ℕ) → text_of (put t id text) id ≡ Some text → (put t id text).spare ≡ t.spare - need_of text
put-spare t zero text named = let none : [] ≡ text = cc in subst (λ xs. t.spare ≡ t.spare - need_of xs) none (omega arith)
put-spare t (suc slot) text named = refl

module _ (rows : Table Row) (t : Texts) (h : ℕ) where
  pub opened-none : ((k : ℕ) → value_at rows k ≡ None) → value_at (rows_in rows t).rows h ≡ None
  opened-none none = shown-at t rows.values h ∙ ap (option_map (kept_row t)) (none h)

  pub inserts : (kind : Kind) → rows_in (value_inserted rows h (new_row kind)) t ≡ record (rows_in rows t) { rows = value_inserted (rows_in rows t).rows h (record { row = new_row kind; text = [] }) }
  inserts kind = λ i. record {
    rows = record { values = shown-set t t rows.values h (Some (new_row kind)) (λ k ne. refl) i; spare = rows.spare - 1; size = rows.size };
    spare_texts = t.spare;
  }

  module _ (row : Row) (is : value_at rows h ≡ Some row) where
    within : h < length rows.values
    within = elim (cases_lt h (length rows.values)) [
      | inl lt ↦ lt
      | inr ge ↦ let none = get_or_past rows.values h None ge in absurd (cc)
    ]

    shown : value_at (rows_in rows t).rows h ≡ Some (kept_row t row)
    shown = shown-at t rows.values h ∙ ap (option_map (kept_row t)) is

    name : name_at rows h ≡ row.text.0
    name = ap name_in is

    -- the row that it has, set again
    pub same_row : value_replaced rows h row ≡ rows
    same_row = λ i. record {
      values = ext_get_or None (set rows.values h (Some row)) rows.values (length-set rows.values h (Some row)) (λ k lt. elim (cases_eq k h) [
        | inl same ↦ ap (λ j. get_or (set rows.values h (Some row)) j None) same ∙ get_or-set_same rows.values h (Some row) None within ∙ sym is ∙ ap (value_at rows) (sym same)
        | inr ne ↦ get_or-set_other rows.values h k (Some row) None ne
      ]) i;
      spare = rows.spare;
      size = rows.size;
    }

    module _ (are : AreRows rows t) where
      -- A row taken out, with its text.
      pub removes : rows_in (value_removed rows h) (dropped t row.text.0) ≡ without_row (rows_in rows t) h
      removes =
          let others = subst (λ n. (k : ℕ) → k ≢ h → text_of (dropped t n) (name_at rows k) ≡ text_of t (name_at rows k)) name (others-dropped rows t are h) in
          let free : (dropped t row.text.0).spare ≡ t.spare + chunks_of (value_at (rows_in rows t).rows h) = dropped-spare t row.text.0 ∙ ap (λ n. t.spare + n) (need-kept (text_of t row.text.0) ∙ sym (ap chunks_of shown)) in
          λ i. record {
            rows = record { values = shown-set t (dropped t row.text.0) rows.values h None others i; spare = rows.spare + 1; size = rows.size };
            spare_texts = free i;
          }

      -- A row changed.
      module _ (change : Change) where
        pub set_kept : AreRows (value_replaced rows h (row_after change row)) t
        set_kept =
            let here = get_or-set_same rows.values h (Some (row_after change row)) None within in
            let same : name_at (value_replaced rows h (row_after change row)) h ≡ name_at rows h = ap name_in here ∙ ap (λ text. text.0) (text-after change row) ∙ sym name in
            stay rows t are h (value_replaced rows h (row_after change row)) t (λ k ne. get_or-set_other rows.values h k (Some (row_after change row)) None ne) (λ k ne. refl)
            (subst (λ n. IsShort (text_of t n)) (sym same) (are.kept h)) (λ k ne e. same ∙ are.apart h k (λ is. ne (sym is)) (sym same ∙ e))

        pub sets : IfSome (value_at (rows_in rows t).rows h) (λ kept. rows_in (value_replaced rows h (row_after change row)) t ≡ record (rows_in rows t) { rows = value_replaced (rows_in rows t).rows h (record kept { row = row_after change kept.row }) })
        sets =
            let new : kept_row t (row_after change row) ≡ record (kept_row t row) { row = row_after change (shown_row row) } =
            λ i. record { row = shown-after change row i; text = unwrap_or (text_of t (text-after change row i).0) [] } in
            subst (λ o. IfSome o (λ kept. rows_in (value_replaced rows h (row_after change row)) t ≡ record (rows_in rows t) { rows = value_replaced (rows_in rows t).rows h (record kept { row = row_after change kept.row }) })) (sym shown) (λ i. record {
              rows = record { values = (shown-set t t rows.values h (Some (row_after change row)) (λ k ne. refl) ∙ ap (λ kept. set (kept_rows t rows.values) h (Some kept)) new) i; spare = rows.spare; size = rows.size };
              spare_texts = t.spare;
            })

      -- Another text for a row.
      module _ (id : TextId) (text : List ℕ) (free : IsFree (dropped t row.text.0) id.0) (named : text_of (put (dropped t row.text.0) id.0 text) id.0 ≡ Some text) where
        abbrev new : Row
        new = record row { text = id }

        abbrev texts : Texts
        texts = put (dropped t row.text.0) id.0 text

        here : value_at (value_replaced rows h new) h ≡ Some new
        here = get_or-set_same rows.values h (Some new) None within

        free-at : IsFree (dropped t (name_at rows h)) id.0
        free-at = subst (λ n. IsFree (dropped t n) id.0) (sym name) free

        others : (k : ℕ) → k ≢ h → text_of texts (name_at rows k) ≡ text_of t (name_at rows k)
        others = subst (λ n. (k : ℕ) → k ≢ h → text_of (put (dropped t n) id.0 text) (name_at rows k) ≡ text_of t (name_at rows k)) name (others-put rows t are h id.0 text free-at)

        pub retold_kept : length text ≤ 1000 → AreRows (value_replaced rows h new) texts
        retold_kept short =
            stay rows t are h (value_replaced rows h new) texts (λ k ne. get_or-set_other rows.values h k (Some new) None ne) others
            (subst (λ o. IsShort (text_of texts (name_in o))) (sym here) (subst IsShort (sym named) short))
            (λ k ne e. ap name_in here ∙ new-apart rows t are h id.0 free-at k ne (sym (ap name_in here) ∙ e))

        pub retells : rows_in (value_replaced rows h new) texts ≡ with_text (rows_in rows t) h text
        retells =
            let told : kept_row texts new ≡ record (kept_row t row) { text = text } = λ i. record { row = shown_row row; text = unwrap_or (named i) [] } in
            let free : texts.spare ≡ (t.spare + need_of (kept_row t row).text) - need_of text =
            put-spare (dropped t row.text.0) id.0 text named ∙ ap (λ n. n - need_of text) (dropped-spare t row.text.0 ∙ ap (λ n. t.spare + n) (need-kept (text_of t row.text.0))) in
            subst (λ o. rows_in (value_replaced rows h new) texts ≡ record { rows = text_replaced o (rows_in rows t).rows h text; spare_texts = (t.spare + chunks_of o) - need_of text }) (sym shown) (λ i. record {
              rows = record { values = (shown-set t texts rows.values h (Some new) others ∙ ap (λ kept. set (kept_rows t rows.values) h (Some kept)) told) i; spare = rows.spare; size = rows.size };
              spare_texts = free i;
            })
