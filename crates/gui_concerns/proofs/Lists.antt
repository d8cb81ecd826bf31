-- Trees that have some object.
use Rattle.std.proofs.Common.{◌≡◌, ℕ, ◌<◌, true, arith}
use Rattle.std.proofs.lemmas.Bool.{false≢true}
use Rattle.gui_base.specs.Forest.{Forest, Empty, Tree, has, size}

-- trees in which something is have some objects
pub some-size : (k : ℕ) (f : Forest ℕ) → has f k ≡ true → 0 < size f
some-size k Empty there = absurd (false≢true there)
some-size k (Tree t cs rest) there = omega arith
