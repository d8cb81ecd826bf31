-- Which text the rows name while texts come and go.
use Rattle.std.proofs.Common.{◌≡◌, ◌≢◌, ℕ, zero, suc, List, Option, None, Some, IsSome, refl, sym, ap, ◌∙◌, subst, inl, inr}
use Rattle.std.proofs.lemmas.Bool.{cases_eq}
use Rattle.std.proofs.lemmas.List.{get_or-set_other}
use Rattle.gui_pool.specs.Table.{Table, value_at}
use Rattle.gui_pool.specs.Texts.{Texts, text_of, IsFree, put, dropped}
use Rattle.scene_defs.specs.declared.Row.{Row}
use Rattle.gui_store.specs.KeptRows.{name_in, name_at, IsShort, AreRows}

-- a text stays when another is dropped
text-dropped : (t : Texts) (id other : ℕ) → (id ≡ other → id ≡ 0) → text_of (dropped t id) other ≡ text_of t other
text-dropped t zero other apart = refl
text-dropped t (suc slot) zero apart = refl
text-dropped t (suc slot) (suc k) apart =
    get_or-set_other t.texts slot k None None (λ e. let z : suc slot ≡ 0 = apart (ap suc (sym e)) in cc)

-- and when another is put
text-put : (t : Texts) (id other : ℕ) (text : List ℕ) → IsFree t id → IsSome (text_of t other) → text_of (put t id text) other ≡ text_of t other
text-put t zero other text free some = refl
text-put t (suc slot) zero text free some = refl
text-put t (suc slot) (suc k) text free some =
    get_or-set_other t.texts slot k (Some text) None (λ e. let none = ap (λ j. text_of t (suc j)) e ∙ free in let off = rw none at some in cc)

short-some : (o : Option (List ℕ)) → IsShort o → IsSome o
short-some None short = absurd short
short-some (Some text) short = refl

module _ (rows : Table Row) (t : Texts) (are : AreRows rows t) (h : ℕ) where
  -- The texts of the rows of other handles stay when that of h is dropped,
  pub others-dropped : (k : ℕ) → k ≢ h → text_of (dropped t (name_at rows h)) (name_at rows k) ≡ text_of t (name_at rows k)
  others-dropped k ne = text-dropped t (name_at rows h) (name_at rows k) (are.apart h k (λ e. ne (sym e)))

  still : (k : ℕ) → k ≢ h → IsSome (text_of (dropped t (name_at rows h)) (name_at rows k))
  still k ne = subst (λ o. IsSome o) (sym (others-dropped k ne)) (short-some _ (are.kept k))

  -- and when another is put in its place, under a name that is not theirs.
  pub others-put : (id : ℕ) (text : List ℕ) → IsFree (dropped t (name_at rows h)) id → (k : ℕ) → k ≢ h → text_of (put (dropped t (name_at rows h)) id text) (name_at rows k) ≡ text_of t (name_at rows k)
  others-put id text free k ne = text-put (dropped t (name_at rows h)) id (name_at rows k) text free (still k ne) ∙ others-dropped k ne

  pub new-apart : (id : ℕ) → IsFree (dropped t (name_at rows h)) id → (k : ℕ) → k ≢ h → id ≡ name_at rows k → id ≡ 0
  new-apart zero free k ne same = refl
  new-apart (suc slot) free k ne same =
      let none = ap (text_of (dropped t (name_at rows h))) (sym same) ∙ free in let off = rw none at (still k ne) in absurd (cc)

  -- What holds of the rows, once that of h is another.
  pub stay : (rows' : Table Row) (t' : Texts) → ((k : ℕ) → k ≢ h → value_at rows' k ≡ value_at rows k) →
      ((k : ℕ) → k ≢ h → text_of t' (name_at rows k) ≡ text_of t (name_at rows k)) → IsShort (text_of t' (name_at rows' h)) →
      ((k : ℕ) → k ≢ h → name_at rows' h ≡ name_at rows k → name_at rows' h ≡ 0) → AreRows rows' t'
  stay rows' t' same texts here apart =
      let name : (k : ℕ) → k ≢ h → name_at rows' k ≡ name_at rows k = λ k ne. ap name_in (same k ne) in
      record {
        kept = λ k. elim (cases_eq k h) [
          | inl is ↦ subst (λ j. IsShort (text_of t' (name_at rows' j))) (sym is) here
          | inr ne ↦ subst IsShort (sym (ap (text_of t') (name k ne) ∙ texts k ne)) (are.kept k)
        ];
        apart = λ j k ne e. elim (cases_eq j h) [
          | inl is ↦
              let other : k ≢ h = λ also. ne (is ∙ sym also) in
              let at = ap (name_at rows') is in at ∙ apart k other (sym at ∙ e ∙ name k other)
          | inr other ↦ elim (cases_eq k h) [
            | inl is ↦ let at = ap (name_at rows') is in e ∙ at ∙ apart j other (sym at ∙ sym e ∙ name j other)
            | inr too ↦ name j other ∙ are.apart j k ne (sym (name j other) ∙ e ∙ name k too)
          ]
        ];
      }
