use Rattle.gui_store.proofs.RowSets.{opened-none}
use Rattle.gui_store.proofs.row_table.RowTable.open.Goals as goal

pub returns-clause-empty : goal.returns-clause-empty
returns-clause-empty c = λ h. opened-none c.in_ok-rows.rows c.in_ok-texts.texts h c.in_ok-rows.ensures.empty
