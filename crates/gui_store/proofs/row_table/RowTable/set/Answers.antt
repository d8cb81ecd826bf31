use Rattle.std.proofs.Common.{◌≡◌, sym, subst, IfSome}
use Rattle.gui_pool.specs.Table.{value_at, value_replaced}
use Rattle.scene_defs.specs.Deeds.{row_after}
use Rattle.gui_store.specs.RowSets.{RowSet}
use Rattle.gui_store.specs.KeptRows.{rows_in}
use Rattle.gui_store.proofs.RowSets.{sets, set_kept}
use Rattle.gui_store.proofs.row_table.RowTable.set.Goals as goal

pub invariant_of-self : goal.invariant_of-self
invariant_of-self c =
    let s = c.self.inside in
    let is = sym (rw c.in-Some.is at c.get_mut.ensures.value) in
    rw c.set_row.ensures (set_kept s.rows s.texts c.args.h c.in-Some.row.now is c.self.invariant c.args.change.now)

pub returns : goal.returns
returns c =
    let s = c.self.inside in
    let change = c.args.change.now in
    let new = row_after change c.in-Some.row.now in
    let is = sym (rw c.in-Some.is at c.get_mut.ensures.value) in
    rw c.set_row.ensures (subst (λ (set : RowSet). IfSome (value_at set.rows c.args.h) (λ kept. rows_in (value_replaced s.rows c.args.h new) s.texts ≡ record set { rows = value_replaced set.rows c.args.h (record kept { row = row_after change kept.row }) })) c.self.view_is (sets s.rows s.texts c.args.h c.in-Some.row.now is c.self.invariant change))
