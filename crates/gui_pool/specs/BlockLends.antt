-- What a `Block` ends as, once a `&mut` to one of its cells has ended.
use Rattle.std.specs.Prelude.{ℕ, List, slice_set}
use Rattle.std.specs.Borrow.{Fml, RattleType, MutBor, Lends}
use Rattle.gui_pool.specs.contracts.block.Block.{the_row}

-- the cell holds the last value written through r
abbrev pub lends_at : (R : RattleType) → MutBor (List R.Denot) → ℕ → MutBor R.Denot → Fml
lends_at R b i r = Lends (the_row R) R b r (slice_set b.now i)
