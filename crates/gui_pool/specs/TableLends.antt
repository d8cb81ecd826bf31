-- What a `Table` ends as, once a `&mut` to one of its values has ended.
use Rattle.std.specs.Prelude.{ℕ, Option}
use Rattle.std.specs.Borrow.{Fml, RattleType, MutBor, Lends, LendsIf}
use Rattle.gui_pool.specs.Table.{Table, value_replaced}
use Rattle.gui_pool.specs.contracts.table.Table.{the_row}

module _ (R : RattleType) (t : MutBor (Table R.Denot)) (key : ℕ) where
  -- the key has the last value written through r
  abbrev pub lends_key : MutBor R.Denot → Fml
  lends_key r = Lends (the_row R) R t r (value_replaced t.now key)

  -- the same, and at `None` the table stays as it is
  abbrev pub lends_key_if : Option (MutBor R.Denot) → Fml
  lends_key_if r = LendsIf (the_row R) R t r (value_replaced t.now key) t.now
