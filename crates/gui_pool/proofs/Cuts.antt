-- A text cut into chunks, and put together again.
use Rattle.std.proofs.Common.{◌≡◌, ◌≤◌, ℕ, zero, suc, ◌+◌, ◌-◌, ◌*◌, min, List, [], ◌∷◌, ◌++◌, length, take, drop, replicate, refl, sym, ap, ◌∙◌, inl, inr, arith, append_assoc, length-take, length-drop}
use Rattle.std.proofs.lemmas.Bool.{cases_lt}
use Rattle.std.proofs.lemmas.List.{take-append-drop, take-append-le, append-nil, take_all}
use Rattle.std.proofs.Math.Seq.{take-append-add, take-append_seam, take-length}
use Rattle.gui_pool.specs.Pieces.{padded, pieces, joined}

-- the next chunk behind those that stand
pub next_piece : (n m : ℕ) (done : List (List ℕ)) (text piece more : List ℕ) (chunk : List ℕ) → n ≡ suc m → piece ≡ take 28 text → more ≡ drop 28 text → chunk ≡ padded piece → (done ++ chunk ∷ []) ++ pieces m more ≡ done ++ pieces n text
next_piece n m done text piece more chunk one front back made =
    append_assoc done (chunk ∷ []) (pieces m more)
    ∙ ap (λ k. done ++ (k ∷ pieces m more)) (made ∙ ap padded front)
    ∙ ap (λ t. done ++ (padded (take 28 text) ∷ pieces m t)) back
    ∙ ap (λ k. done ++ pieces k text) (sym one)

-- the first bytes of the chunks are the text
pub together : (n : ℕ) (text : List ℕ) → length text ≤ 28 * n → take (length text) (joined (pieces n text)) ≡ text
together zero [] le = refl
together zero (x ∷ text) le = absurd (omega arith)
together (suc n) text le =
    let front = take 28 text in let back = drop 28 text in
    let rest = joined (pieces n back) in
    elim (cases_lt 28 (length text)) [
      | inl more ↦
          let long : length front ≡ 28 = length-take 28 text ∙ omega arith in
          let none : padded front ≡ front = ap (λ k. front ++ replicate k 0) (let z : 28 - length front ≡ 0 = omega arith in z) ∙ append-nil front in
          let parts : length text ≡ length front + length back = omega (arith, long, length-drop 28 text) in
          let below = together n back (omega (arith, length-drop 28 text)) in
          ap (λ k. take k (padded front ++ rest)) parts ∙ ap (λ xs. take (length front + length back) (xs ++ rest)) none ∙ take-append-add front rest (length back) ∙ ap (λ xs. front ++ xs) below ∙ take-append-drop 28 text
      | inr less ↦
          let whole : front ≡ text = take_all 28 text less in
          ap (λ xs. take (length text) ((xs ++ replicate (28 - length xs) 0) ++ rest)) whole ∙ ap (take (length text)) (append_assoc text (replicate (28 - length text) 0) rest) ∙ take-append_seam text (replicate (28 - length text) 0 ++ rest)
    ]

-- the first bytes of two lists: those of the first, and as many of the second as are left
pub take-both : (n : ℕ) (xs ys piece : List ℕ) → piece ≡ take (min n (length xs)) xs → length piece ≡ min n (length xs) → piece ++ take (n - length piece) ys ≡ take n (xs ++ ys)
take-both n xs ys piece is long =
    elim (cases_lt n (length xs)) [
      | inl less ↦
          let all : min n (length xs) ≡ n = omega arith in
          let none : n - length piece ≡ 0 = omega arith in
          ap (λ k. piece ++ take k ys) none ∙ append-nil piece ∙ is ∙ ap (λ k. take k xs) all ∙ sym (take-append-le n xs ys (omega arith))
      | inr more ↦
          let whole : min n (length xs) ≡ length xs = omega arith in
          let same : piece ≡ xs = is ∙ ap (λ k. take k xs) whole ∙ take-length xs in
          let parts : length xs + (n - length xs) ≡ n = omega arith in
          ap (λ p. p ++ take (n - length p) ys) same ∙ sym (take-append-add xs ys (n - length xs)) ∙ ap (λ k. take k (xs ++ ys)) parts
    ]
