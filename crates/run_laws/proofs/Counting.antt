-- Lists of numbers: who is among them, and how many they are.
use Rattle.std.proofs.Common.{◌≡◌, ◌≤◌, suc, ℕ, Bool, true, false, refl, List, [], ◌∷◌, ◌++◌, length, length-append, filter, arith}
use Rattle.std.specs.Prelude.{not, ◌||◌, ◌&&◌, ◌==◌}
use Rattle.std.proofs.lemmas.Bool.Decides.{nat_tests}
use Rattle.gui_base.specs.Forest.{Forest, Empty, Tree, preorder, size, has}
use Rattle.scene_defs.specs.Valid.{is_among, stand_once}

pub among-append : (ns ms : List ℕ) (k : ℕ) → is_among (ns ++ ms) k ≡ (is_among ns k || is_among ms k)
among-append [] ms k = refl
among-append (n ∷ ns) ms k = grind (arith, nat_tests, among-append ns ms k)

-- those that pass a test
pub among-filter : (test : ℕ → Bool) (ns : List ℕ) (k : ℕ) → is_among (filter test ns) k ≡ (is_among ns k && test k)
among-filter test [] k = refl
among-filter test (n ∷ ns) k = grind (arith, nat_tests, among-filter test ns k)

pub once-filter : (test : ℕ → Bool) (ns : List ℕ) → stand_once ns ≡ true → stand_once (filter test ns) ≡ true
once-filter test [] once = refl
once-filter test (n ∷ ns) once = grind (arith, nat_tests, among-filter test ns n, once-filter test ns)

pub filter-fewer : (test : ℕ → Bool) (ns : List ℕ) → length (filter test ns) ≤ length ns
filter-fewer test [] = omega arith
filter-fewer test (n ∷ ns) = grind (arith, filter-fewer test ns)

pub filter-drops : (test : ℕ → Bool) (ns : List ℕ) (k : ℕ) → is_among ns k ≡ true → test k ≡ false → suc (length (filter test ns)) ≤ length ns
filter-drops test [] k is fail = cc
filter-drops test (n ∷ ns) k is fail = grind (arith, nat_tests, filter-drops test ns k, filter-fewer test ns)

-- numbers that stand once and are all among others are no more than those
pub no_more : (ns ms : List ℕ) → stand_once ns ≡ true → ((k : ℕ) → is_among ns k ≡ true → is_among ms k ≡ true) → length ns ≤ length ms
no_more [] ms once inside = omega arith
no_more (n ∷ ns) ms once inside =
    let others : List ℕ = filter (λ m. not (m == n)) ms in
    let fewer : suc (length others) ≤ length ms = filter-drops (λ m. not (m == n)) ms n (inside n (grind (arith, nat_tests))) (grind (arith, nat_tests)) in
    let rest : length ns ≤ length others =
    no_more ns others (grind (arith, nat_tests, once)) (λ k is. grind (arith, nat_tests, among-filter (λ m. not (m == n)) ms k, inside k, is, once)) in
    omega (arith, fewer, rest)

-- the names of trees
pub preorder-length : (f : Forest ℕ) → length (preorder f) ≡ size f
preorder-length Empty = refl
preorder-length (Tree h cs rest) = omega (arith, length-append (preorder cs) (preorder rest), preorder-length cs, preorder-length rest)

pub preorder-has : (f : Forest ℕ) (k : ℕ) → is_among (preorder f) k ≡ has f k
preorder-has Empty k = refl
preorder-has (Tree h cs rest) k = grind (arith, nat_tests, among-append (preorder cs) (preorder rest) k, preorder-has cs k, preorder-has rest k)
