use Rattle.std.proofs.Common.{◌≡◌, [], subst}
use Rattle.gui_pool.specs.Table.{value_inserted}
use Rattle.scene_defs.specs.Row.{new_row}
use Rattle.gui_store.specs.RowSets.{RowSet}
use Rattle.gui_store.specs.KeptRows.{rows_in}
use Rattle.gui_store.proofs.RowSets.{inserts}
use Rattle.gui_store.proofs.row_table.RowTable.insert_new.Goals as goal

pub returns : goal.returns
returns c =
    let s = c.self.inside in
    let added = rw c.in-Ok.is at c.insert.ensures.inserts in
    rw (added, c.new_row.ensures) (subst (λ (set : RowSet). rows_in (value_inserted s.rows c.args.h (new_row c.args.kind)) s.texts ≡ record set { rows = value_inserted set.rows c.args.h (record { row = new_row c.args.kind; text = [] }) }) c.self.view_is (inserts s.rows s.texts c.args.h c.args.kind))
