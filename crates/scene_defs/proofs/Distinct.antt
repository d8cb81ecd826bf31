-- Rows whose handles stand once each.
use Rattle.std.proofs.Common.{◌≡◌, ◌≢◌, ◌+◌, ◌≤◌, ℕ, Bool, true, ◌||◌, refl, arith}
use Rattle.std.proofs.lemmas.Bool.Decides.{nat_tests}
use Rattle.gui_base.specs.Forest.{Forest, Empty, Tree, and_then, has_by, count, StandsOnce}
use Rattle.gui_base.proofs.Visits.{IsDistinct as NoTwo, distinct_once as no_two_once}
use Rattle.scene_defs.specs.Scene.{Object, handle_of, is_at, handles_of}
use Rattle.scene_defs.specs.Visible.{root_tree}

abbrev pub there : Forest Object → ℕ → Bool
there f k = has_by (is_at k) f

-- each handle stands once
abbrev pub IsDistinct : Forest Object → Type 0
IsDistinct f = NoTwo handle_of f

pub distinct_once : (f : Forest Object) → StandsOnce (handles_of f) → IsDistinct f
distinct_once = no_two_once handle_of

pub there-and_then : (f g : Forest Object) (k : ℕ) → there (and_then f g) k ≡ (there f k || there g k)
there-and_then Empty g k = refl
there-and_then (Tree object cs rest) g k = grind (arith, nat_tests, there-and_then rest g k)

pub there_from_root : (f : Forest Object) (a k : ℕ) → there (root_tree f a) k ≡ true → there f k ≡ true
there_from_root Empty a k i = i
there_from_root (Tree object cs rest) a k i = grind (arith, nat_tests, there_from_root rest a k)

-- the root a, and the layers above it
abbrev pub three : Forest Object → ℕ → Forest Object
three f a = and_then (root_tree f a) (and_then (root_tree f 1) (root_tree f 2))

count-and_then : (f g : Forest Object) (k : ℕ) → count (handles_of (and_then f g)) k ≡ count (handles_of f) k + count (handles_of g) k
count-and_then Empty g k = omega arith
count-and_then (Tree object cs rest) g k = omega (arith, count-and_then rest g k)

-- no handle stands in two of three roots
count-roots : (f : Forest Object) (a k : ℕ) → a ≢ 1 → a ≢ 2 →
    count (handles_of (root_tree f a)) k + (count (handles_of (root_tree f 1)) k + count (handles_of (root_tree f 2)) k) ≤ count (handles_of f) k
count-roots Empty a k one two = omega arith
count-roots (Tree object cs rest) a k one two = grind (arith, nat_tests, count-roots rest a k one two)

pub distinct-three : (f : Forest Object) (a : ℕ) → StandsOnce (handles_of f) → a ≢ 1 → a ≢ 2 → IsDistinct (three f a)
distinct-three f a once one two = distinct_once (three f a) (λ k.
    grind (arith, once k, count-roots f a k one two, count-and_then (root_tree f a), count-and_then (root_tree f 1)))
