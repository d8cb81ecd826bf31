-- What a viewer makes of a record, and of a prefix of one.
use Rattle.std.proofs.Common.{◌≡◌, ◌∙◌, sym, ap, refl, ℕ, ◌<◌, ◌≤◌, nat_lt, true, false, List, [], ◌∷◌, ◌++◌, append_assoc, append-nil, length, fold, arith}
use Rattle.std.proofs.lemmas.Bool.Decides.{nat_tests}
use Rattle.std.proofs.lemmas.Grind.{fold-append, common_steps}
use Rattle.panel_stream.specs.Viewer.{Viewer, with_byte, with_bytes, record_len, takes, viewing}

-- Bytes that are one record: no prefix of them is one.
pub record IsRecord (r : List ℕ) : Type 0 where
  pub unfinished : (done more : List ℕ) → done ++ more ≡ r → 0 < length done → 0 < length more → length done < record_len done
  pub whole : record_len r ≤ length r
  pub some : 0 < length r

lt_true : (a b : ℕ) → a < b → nat_lt a b ≡ true
lt_true a b h = grind (arith, nat_tests)

lt_false : (a b : ℕ) → b ≤ a → nat_lt a b ≡ false
lt_false a b h = grind (arith, nat_tests)

keeps : (v : Viewer) (bytes : List ℕ) → length bytes < record_len bytes → with_bytes v bytes ≡ record v { kept = bytes }
keeps v bytes h = rw (lt_true (length bytes) (record_len bytes) h) refl

finishes : (v : Viewer) (bytes : List ℕ) → record_len bytes ≤ length bytes → with_bytes v bytes ≡ takes (record v { kept = [] }) bytes
finishes v bytes h = rw (lt_false (length bytes) (record_len bytes) h) refl

one_more : (kept done more r : List ℕ) (b : ℕ) → (kept ++ b ∷ done) ++ more ≡ r → ((kept ++ b ∷ []) ++ done) ++ more ≡ r
one_more kept done more r b e = ap (λ (l : List ℕ). l ++ more) (append_assoc kept (b ∷ []) done) ∙ e

pushed : (kept : List ℕ) (b : ℕ) → 0 < length (kept ++ b ∷ [])
pushed kept b = grind (arith, common_steps)

-- a byte of it that is not the last one is kept
step : (v : Viewer) (r kept more : List ℕ) (b : ℕ) → IsRecord r → v.kept ≡ kept → (kept ++ b ∷ []) ++ more ≡ r → 0 < length more → with_byte v b ≡ record v { kept = kept ++ b ∷ [] }
step v r kept more b i k e some =
    ap (λ (l : List ℕ). with_bytes v (l ++ b ∷ [])) k ∙ keeps v (kept ++ b ∷ []) (i.unfinished (kept ++ b ∷ []) more e (pushed kept b) some)

longer : (a b : List ℕ) → 0 < length b → 0 < length (a ++ b)
longer a b h = grind (arith, common_steps)

kept_more : (v : Viewer) (r kept done more : List ℕ) → IsRecord r → v.kept ≡ kept → (kept ++ done) ++ more ≡ r → 0 < length more → fold with_byte v done ≡ record v { kept = kept ++ done }
kept_more v r kept [] more i k e some = ap (λ (l : List ℕ). record v { kept = l }) (k ∙ sym (append-nil kept))
kept_more v r kept (b ∷ done) more i k e some =
    let e' = one_more kept done more r b e in
    ap (λ (w : Viewer). fold with_byte w done) (step v r kept (done ++ more) b i k (sym (append_assoc (kept ++ b ∷ []) done more) ∙ e') (longer done more some))
    ∙ kept_more (record v { kept = kept ++ b ∷ [] }) r (kept ++ b ∷ []) done more i refl e' some
    ∙ ap (λ (l : List ℕ). record v { kept = l }) (append_assoc kept (b ∷ []) done)

taken_all : (v : Viewer) (r kept rest : List ℕ) → IsRecord r → v.kept ≡ kept → kept ++ rest ≡ r → 0 < length rest → fold with_byte v rest ≡ takes (record v { kept = [] }) r
taken_all v r kept [] i k e some = absurd (omega arith)
taken_all v r kept (b ∷ []) i k e some =
    ap (λ (l : List ℕ). with_bytes v (l ++ b ∷ [])) k ∙ ap (with_bytes v) e ∙ finishes v r i.whole
taken_all v r kept (b ∷ d ∷ rest) i k e some =
    let e' : (kept ++ b ∷ []) ++ (d ∷ rest) ≡ r = append_assoc kept (b ∷ []) (d ∷ rest) ∙ e in
    let more : 0 < length (d ∷ rest) = omega arith in
    ap (λ (w : Viewer). fold with_byte w (d ∷ rest)) (step v r kept (d ∷ rest) b i k e' more)
    ∙ taken_all (record v { kept = kept ++ b ∷ [] }) r (kept ++ b ∷ []) (d ∷ rest) i refl e' more

-- A viewer between two records takes one.
pub views_record : (v : Viewer) (r : List ℕ) → IsRecord r → v.kept ≡ [] → viewing v r ≡ takes (record v { kept = [] }) r
unfolding viewing
views_record v r i k = taken_all v r [] r i k refl i.some

-- It keeps a prefix of it that is not all of it.
pub views_prefix : (v : Viewer) (prefix rest r : List ℕ) → IsRecord r → v.kept ≡ [] → prefix ++ rest ≡ r → 0 < length rest → viewing v prefix ≡ record v { kept = prefix }
unfolding viewing
views_prefix v prefix rest r i k e some = kept_more v r [] prefix rest i k e some

pub viewing-append : (v : Viewer) (a b : List ℕ) → viewing v (a ++ b) ≡ viewing (viewing v a) b
unfolding viewing
viewing-append v a b = fold-append with_byte v a b
