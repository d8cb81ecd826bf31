-- What a cutter says of the bytes that it took.
use Rattle.std.proofs.Common.{◌≡◌, ◌≢◌, ◌∙◌, sym, ap, ℕ, true, false, List, [], ◌∷◌, ◌++◌, length-append, append-nil, arith, refl, inl, inr}
use Rattle.std.specs.Prelude.{Some, None}
use Rattle.std.specs.declared.option.Option.{Option}
use Rattle.std.proofs.lemmas.Bool.Decides.{nat_tests, eqb_tells}
use Rattle.run_defs.specs.Script.{Said, is_newline, ended_says, open_says, says_cut, rest_of}
use Rattle.run_defs.proofs.Lines.{says_cut-newline, says_cut-other, rest_of-newline, rest_of-other}
use Rattle.scene_script.specs.Cutting.{Cutting, kept, kept_with, begun, cut_of, last_cut, pushed, finished, cut_line, cut_says, Takes, Finishes}

newline_says : (rest : List ℕ) → cut_line (cut_of (kept rest)) (kept rest) false ≡ ended_says rest ∷ []
newline_says rest = grind (arith, nat_tests)

cut_says-newline : (c : Cutting) (rest : List ℕ) → begun c ≡ kept rest → cut_says (pushed c 10) ≡ ended_says rest ∷ []
cut_says-newline c rest e = ap (λ (o : Option (List ℕ)). cut_line (cut_of o) o false) e ∙ newline_says rest

begun-newline : (c : Cutting) → begun (pushed c 10) ≡ Some []
begun-newline c = ended (begun c) where
  ended : (o : Option (List ℕ)) → begun (record { bytes = o; answer = cut_of o; last = false }) ≡ Some []
  ended None = refl
  ended (Some bytes) = refl

cut_says-other : (c : Cutting) (b : ℕ) → b ≢ 10 → cut_says (pushed c b) ≡ []
cut_says-other c b ne = grind (arith, nat_tests)

kept-more : (bs : List ℕ) (b : ℕ) → kept_with (kept bs) b ≡ kept (bs ++ b ∷ [])
kept-more bs b = grind (arith, nat_tests, length-append bs (b ∷ []))

begun-other : (c : Cutting) (rest : List ℕ) (b : ℕ) → b ≢ 10 → begun c ≡ kept rest → begun (pushed c b) ≡ kept (rest ++ b ∷ [])
begun-other c rest b ne e =
    let test : is_newline b ≡ false = grind (arith, nat_tests) in
    rw test (ap (λ (o : Option (List ℕ)). kept_with o b) e ∙ kept-more rest b)

last_says : (rest : List ℕ) → cut_line (last_cut (kept rest)) (kept rest) true ≡ open_says rest
last_says [] = refl
last_says (b ∷ rest) = grind (arith, nat_tests)

cut_says-finished : (c : Cutting) (rest : List ℕ) → begun c ≡ kept rest → cut_says (finished c) ≡ open_says rest
cut_says-finished c rest e = ap (λ (o : Option (List ℕ)). cut_line (last_cut o) o true) e ∙ last_says rest

-- what a byte more says, and the line that it is of
pub pushed_takes : (c : Cutting) (b : ℕ) → Takes c (pushed c b) b
pushed_takes c b = elim (eqb_tells b 10) [
  | inl is ↦ rw is.1 (record {
    says = λ taken e. ap (λ (t : List Said). says_cut taken ++ t) (cut_says-newline c (rest_of taken) e) ∙ sym (says_cut-newline taken);
    has = λ taken e. begun-newline c ∙ ap kept (sym (rest_of-newline taken));
  })
  | inr isnt ↦ record {
    says = λ taken e. ap (λ (t : List Said). says_cut taken ++ t) (cut_says-other c b isnt.1) ∙ (append-nil (says_cut taken) ∙ sym (says_cut-other taken b isnt.1));
    has = λ taken e. begun-other c (rest_of taken) b isnt.1 e ∙ ap kept (sym (rest_of-other taken b isnt.1));
  }
]

pub finished_finishes : (c : Cutting) → Finishes c (finished c)
finished_finishes c = record { says = λ script e. ap (λ (t : List Said). says_cut script ++ t) (cut_says-finished c (rest_of script) e) }
