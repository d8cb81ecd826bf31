-- Buckets as they are opened.
use Rattle.std.proofs.Common.{◌≡◌, ℕ, zero, suc, ◌<◌, ◌≤◌, List, [], ◌∷◌, length, map, replicate, sum_by, get_or, refl, ap, ◌∙◌, arith}
use Rattle.std.proofs.lemmas.List.{get_or-replicate, length-replicate}
use Rattle.std.proofs.lemmas.List.Folds.{sum_by-replicate}
use Rattle.gui_pool.specs.Slots.{Slots}
use Rattle.gui_pool.specs.declared.buckets.Node.{Node}
use Rattle.gui_pool.specs.Runs.{nowhere, run_from, AreRuns}
use Rattle.gui_pool.proofs.Runs.{values_run}

map-replicate : {A B : Type 0} (f : A → B) (n : ℕ) (x : A) → map f (replicate n x) ≡ replicate n (f x)
map-replicate f zero x = refl
map-replicate f (suc n) x = ap (λ ys. f x ∷ ys) (map-replicate f n x)

all_none : (A : Type 0) (n o : ℕ) → get_or (replicate {A = List A} n []) o [] ≡ []
all_none A zero o = refl
all_none A (suc n) zero = refl
all_none A (suc n) (suc o) = all_none A n o

module _ {T : Type 0} (s : Slots (Node T)) (firsts : List ℕ) (buckets : ℕ) (small : length s.slots ≤ nowhere) (none : firsts ≡ replicate buckets nowhere) where
  nothing : run_from s.slots nowhere ≡ []
  nothing = values_run (λ _. 0) s.slots 0 nowhere [] (length s.slots) small refl (omega arith)

  pub lists_opened : map (run_from s.slots) firsts ≡ replicate buckets []
  lists_opened =
      ap (map (run_from s.slots)) none ∙ map-replicate (run_from s.slots) buckets nowhere ∙ ap (replicate buckets) nothing

  pub none_opened : (length (map (run_from s.slots) firsts) ≡ buckets) × ((o : ℕ) → get_or (map (run_from s.slots) firsts) o [] ≡ [])
  none_opened =
      (ap length lists_opened ∙ length-replicate buckets [], λ o. ap (λ xs. get_or xs o []) lists_opened ∙ all_none T buckets o)

  pub AreRuns-opened : s.spare ≡ length s.slots → AreRuns s firsts
  AreRuns-opened all = record {
    owner = λ _. 0;
    runs = λ o within.
        let lt : o < buckets = omega (arith, ap length none ∙ length-replicate buckets nowhere) in
        let first : get_or firsts o 0 ≡ nowhere = ap (λ xs. get_or xs o 0) none ∙ get_or-replicate buckets o nowhere 0 lt in
        rw (first, nothing) refl;
    counted = let sums = ap (sum_by length) lists_opened in let no = sum_by-replicate {X = List T} length buckets [] in omega arith;
    small = small;
  }
