-- How control characters are looked for.
use Rattle.std.proofs.Common.{◌≡◌, ◌∙◌, refl, ap, sym, ℕ, ◌≤◌, ◌-◌, Bool, true, false, ◌||◌, List, [], ◌∷◌, length, get_or, take, drop, arith, length-drop}
use Rattle.std.proofs.lemmas.List.{take_all}
use Rattle.std.specs.List.{list_any}

-- whether one of the first eight bytes is such a byte
abbrev pub of_eight : (ℕ → Bool) → List ℕ → Bool
of_eight p bs =
    ((((((p (get_or bs 0 0) || p (get_or bs 1 0)) || p (get_or bs 2 0)) || p (get_or bs 3 0))
    || p (get_or bs 4 0)) || p (get_or bs 5 0)) || p (get_or bs 6 0)) || p (get_or bs 7 0)

one_by_one : (a b c d e f g h r : Bool) →
    (a || (b || (c || (d || (e || (f || (g || (h || r)))))))) ≡ ((((((((a || b) || c) || d) || e) || f) || g) || h) || r)
one_by_one true b c d e f g h r = refl
one_by_one false true c d e f g h r = refl
one_by_one false false true d e f g h r = refl
one_by_one false false false true e f g h r = refl
one_by_one false false false false true f g h r = refl
one_by_one false false false false false true g h r = refl
one_by_one false false false false false false true h r = refl
one_by_one false false false false false false false true r = refl
one_by_one false false false false false false false false r = refl

-- eight bytes, and those behind them
eight : (p : ℕ → Bool) (bs : List ℕ) → 8 ≤ length bs → list_any p bs ≡ (of_eight p bs || list_any p (drop 8 bs))
eight p [] lt = absurd (omega arith)
eight p (a ∷ []) lt = absurd (omega arith)
eight p (a ∷ b ∷ []) lt = absurd (omega arith)
eight p (a ∷ b ∷ c ∷ []) lt = absurd (omega arith)
eight p (a ∷ b ∷ c ∷ d ∷ []) lt = absurd (omega arith)
eight p (a ∷ b ∷ c ∷ d ∷ e ∷ []) lt = absurd (omega arith)
eight p (a ∷ b ∷ c ∷ d ∷ e ∷ f ∷ []) lt = absurd (omega arith)
eight p (a ∷ b ∷ c ∷ d ∷ e ∷ f ∷ g ∷ []) lt = absurd (omega arith)
eight p (a ∷ b ∷ c ∷ d ∷ e ∷ f ∷ g ∷ h ∷ bs) lt = one_by_one (p a) (p b) (p c) (p d) (p e) (p f) (p g) (p h) (list_any p bs)

pub some_of_eight : (p : ℕ → Bool) (bs : List ℕ) → 8 ≤ length bs → of_eight p bs ≡ true → list_any p bs ≡ true
some_of_eight p bs h e = eight p bs h ∙ ap (λ (b : Bool). b || list_any p (drop 8 bs)) e

pub none_of_eight : (p : ℕ → Bool) (bs : List ℕ) → 8 ≤ length bs → of_eight p bs ≡ false →
    list_any p (take (length bs - 8) (drop 8 bs)) ≡ list_any p bs
none_of_eight p bs h e =
    ap (list_any p) (take_all (length bs - 8) (drop 8 bs) (omega (arith, length-drop 8 bs)))
    ∙ sym (eight p bs h ∙ ap (λ (b : Bool). b || list_any p (drop 8 bs)) e)
