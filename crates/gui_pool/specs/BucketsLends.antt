-- What `Buckets` ends as, once a `&mut` to one of its values has ended.
use Rattle.std.specs.Prelude.{ℕ}
use Rattle.std.specs.Borrow.{Fml, RattleType, MutBor, Lends}
use Rattle.gui_pool.specs.Lists.{Lists, replaced}
use Rattle.gui_pool.specs.contracts.buckets.Buckets.{the_row}

module _ (R : RattleType) (t : MutBor (Lists R.Denot)) (bucket n : ℕ) where
  -- the place holds the last value written through r
  abbrev pub lends_nth : MutBor R.Denot → Fml
  lends_nth r = Lends (the_row R) R t r (replaced t.now bucket n)
