-- What is owed over a list, where some of it is owed first.
use Rattle.std.proofs.Common.{◌≡◌, ◌∙◌, sym, ap, subst, refl, ℕ, ◌+◌, ◌<◌, ◌≤◌, true, false, eqb, eq-eqb, nat_lt, cond, List, [], ◌∷◌, ◌++◌, append_assoc, inl, inr, arith}
use Rattle.std.specs.List.{flat_map}
use Rattle.std.specs.List.Sorted.{IsPermutation}
use Rattle.std.proofs.lemmas.Bool.{cases_Bool, eqb-true}
use Rattle.std.proofs.lemmas.Bool.Decides.{nat_tests}
use Rattle.std.proofs.lemmas.List.Sorted.{IsPermutation-append_comm, IsPermutation-append_left, IsPermutation-append_right, IsPermutation-refl, IsPermutation-trans}
use Rattle.gui_base.specs.Area.{Rect}
use Rattle.gui_base.specs.declared.Handle.{Handle}
use Rattle.gui_boxes.specs.Listing.{times}
use Rattle.gui_boxes.proofs.These.{times_of}
use Rattle.gui_tree.specs.Handles.{numbers}

pub same-order : {X : Type 0} (xs ys : List X) → xs ≡ ys → IsPermutation xs ys
same-order xs ys e = subst (IsPermutation xs) e (IsPermutation-refl xs)

-- the first two of three lists change places
pub exchange : {X : Type 0} (xs ys zs : List X) → IsPermutation (xs ++ (ys ++ zs)) (ys ++ (xs ++ zs))
exchange xs ys zs =
    subst (λ l. IsPermutation l (ys ++ (xs ++ zs))) (append_assoc xs ys zs)
    (subst (λ l. IsPermutation ((xs ++ ys) ++ zs) l) (append_assoc ys xs zs)
    (IsPermutation-append_left zs (xs ++ ys) (ys ++ xs) (IsPermutation-append_comm xs ys)))

pub same-all : (f g : ℕ → List Rect) → ((k : ℕ) → g k ≡ f k) → (ns : List ℕ) → flat_map g ns ≡ flat_map f ns
same-all f g same [] = refl
same-all f g same (n ∷ ns) = rw (same n, same-all f g same ns) refl

-- of a list without h
pub same-off : (f g : ℕ → List Rect) (h : ℕ) → ((k : ℕ) → eqb h k ≡ false → g k ≡ f k) → (ns : List ℕ) → times_of ns h ≡ 0 → flat_map g ns ≡ flat_map f ns
same-off f g h same [] off = refl
same-off f g h same (n ∷ ns) off =
    let other : eqb h n ≡ false = grind (arith, nat_tests, off) in
    let rest : times_of ns h ≡ 0 = omega (arith, off) in
    rw (same n other, same-off f g h same ns rest) refl

-- of a list that has h once, what h owes is owed first
pub one-first : (f g : ℕ → List Rect) (h : ℕ) → g h ≡ [] → ((k : ℕ) → eqb h k ≡ false → g k ≡ f k) → (ns : List ℕ) → times_of ns h ≡ 1 →
    IsPermutation (f h ++ flat_map g ns) (flat_map f ns)
one-first f g h none same [] once = absurd (omega (arith, once))
one-first f g h none same (n ∷ ns) once = elim (cases_Bool (eqb n h)) [
  | inl is ↦
      let e : n ≡ h = eqb-true n h is in
      let all : 1 + times_of ns h ≡ 1 = rw is at once in
      let off : times_of ns h ≡ 0 = omega (arith, all) in
      let nothing : g n ≡ [] = ap g e ∙ none in
      let here : g n ++ flat_map g ns ≡ flat_map f ns = ap (λ (rs : List Rect). rs ++ flat_map g ns) nothing ∙ same-off f g h same ns off in
      same-order (f h ++ (g n ++ flat_map g ns)) (f n ++ flat_map f ns) (ap (λ (rs : List Rect). f h ++ rs) here ∙ ap (λ (k : ℕ). f k ++ flat_map f ns) (sym e))
  | inr isnt ↦
      let other : eqb h n ≡ false = grind (arith, nat_tests, isnt) in
      let all : 0 + times_of ns h ≡ 1 = rw isnt at once in
      let later : times_of ns h ≡ 1 = omega (arith, all) in
      IsPermutation-trans (f h ++ (g n ++ flat_map g ns)) (f n ++ (f h ++ flat_map g ns)) (f n ++ flat_map f ns)
      (subst (λ (rs : List Rect). IsPermutation (f h ++ (g n ++ flat_map g ns)) (rs ++ (f h ++ flat_map g ns))) (same n other) (exchange (f h) (g n) (flat_map g ns)))
      (IsPermutation-append_right (f n) (f h ++ flat_map g ns) (flat_map f ns) (one-first f g h none same ns later))
]

-- of a list that has all of some once, what these owe is owed first
pub all-first : (f : ℕ → List Rect) (ns : List ℕ) → ((k : ℕ) → times_of ns k ≤ 1) → (hs : List Handle) (g : ℕ → List Rect) → ((k : ℕ) → 0 < times hs k → g k ≡ []) → ((k : ℕ) → times hs k ≡ 0 → g k ≡ f k) → ((k : ℕ) → times hs k ≤ times_of ns k) →
    IsPermutation (flat_map f (numbers hs) ++ flat_map g ns) (flat_map f ns)
all-first f ns once [] g none same fewer = same-order (flat_map g ns) (flat_map f ns) (same-all f g (λ k. same k refl) ns)
all-first f ns once (h ∷ hs) g none same fewer =
    let left : ℕ → List Rect = λ k. cond (nat_lt 0 (times hs k)) [] (f k) in
    let own : 1 + times hs h.0 ≤ times_of ns h.0 = let a = fewer h.0 in rw (eq-eqb h.0 h.0 refl) at a in
    let most = once h.0 in
    let off : times hs h.0 ≡ 0 = omega (arith, own, most) in
    let one : times_of ns h.0 ≡ 1 = omega (arith, own, most) in
    let gone : g h.0 ≡ [] = none h.0 (rw (eq-eqb h.0 h.0 refl) (omega arith)) in
    let owed : left h.0 ≡ f h.0 = rw off refl in
    let others : (k : ℕ) → eqb h.0 k ≡ false → g k ≡ left k = λ k other. elim (cases_Bool (nat_lt 0 (times hs k))) [
      | inl some ↦ let more : 0 < times hs k = grind (arith, nat_tests, some) in rw some (none k (omega (arith, more)))
      | inr zero ↦ let nil : times hs k ≡ 0 = grind (arith, nat_tests, zero) in rw zero (same k (rw (other, nil) refl))
    ] in
    let first : IsPermutation (f h.0 ++ flat_map g ns) (flat_map left ns) = subst (λ (rs : List Rect). IsPermutation (rs ++ flat_map g ns) (flat_map left ns)) owed (one-first left g h.0 gone others ns one) in
    let rest : IsPermutation (flat_map f (numbers hs) ++ flat_map left ns) (flat_map f ns) =
    all-first f ns once hs left (λ k some. let is : nat_lt 0 (times hs k) ≡ true = grind (arith, nat_tests, some) in rw is refl) (λ k zero. rw zero refl) (λ k. let a = fewer k in omega (arith, a)) in
    let a = flat_map f (numbers hs) in
    subst (λ (rs : List Rect). IsPermutation rs (flat_map f ns)) (sym (append_assoc (f h.0) a (flat_map g ns)))
    (IsPermutation-trans (f h.0 ++ (a ++ flat_map g ns)) (a ++ (f h.0 ++ flat_map g ns)) (flat_map f ns) (exchange (f h.0) a (flat_map g ns))
    (IsPermutation-trans (a ++ (f h.0 ++ flat_map g ns)) (a ++ flat_map left ns) (flat_map f ns) (IsPermutation-append_right a (f h.0 ++ flat_map g ns) (flat_map left ns) first) rest))
