use Rattle.std.proofs.Common.{◌≡◌, ◌∙◌, sym, subst}
use Rattle.gui_pool.specs.Table.{value_removed}
use Rattle.gui_pool.specs.Texts.{dropped}
use Rattle.gui_store.specs.RowSets.{RowSet, without_row}
use Rattle.gui_store.specs.KeptRows.{rows_in}
use Rattle.gui_store.proofs.RowSets.{removes}
use Rattle.gui_store.proofs.row_table.RowTable.remove.Goals as goal

pub returns : goal.returns
returns c =
    let s = c.self.inside in
    let gone = rw c.in-Some.is at c.remove.ensures.removes in
    let is = sym c.remove.ensures.value ∙ c.in-Some.is in
    rw (gone, c.drop_text.ensures) (subst (λ (set : RowSet). rows_in (value_removed s.rows c.args.h) (dropped s.texts c.in-Some.row.text.0) ≡ without_row set c.args.h) c.self.view_is (removes s.rows s.texts c.args.h c.in-Some.row is c.self.invariant))
