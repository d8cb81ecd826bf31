use Rattle.std.proofs.Common.{◌∙◌, sym, ap}
use Rattle.std.proofs.lemmas.Result.{err_from_is_err_and}
use Rattle.gui_store.specs.RowSets.{RowSet, with_text}
use Rattle.gui_store.specs.KeptRows.{rows_in}
use Rattle.gui_store.proofs.RowSets.{same_row, retold_kept, retells}
use Rattle.gui_store.proofs.row_table.RowTable.set_text.Goals as goal

pub returns-in_err-row-clause-refused : goal.returns-in_err-row-clause-refused
returns-in_err-row-clause-refused c =
    let s = c.self.inside in
    let is = sym (rw c.in-Some.is at c.get_mut.ensures.value) in
    let p = err_from_is_err_and c.from_residual.result c.from_residual.ensures.1 in
    let same = rw c.in_err-row.was at c.replace.ensures.refused in
    rw (p.1, same) (ap (λ rows. rows_in rows s.texts) (same_row s.rows s.texts c.args.h c.in-Some.row.now is) ∙ c.self.view_is)

pub invariant_of-self-2 : goal.invariant_of-self-2
invariant_of-self-2 c =
    let s = c.self.inside in
    let is = sym (rw c.in-Some.is at c.get_mut.ensures.value) in
    let puts = rw c.in_ok-row.was at c.replace.ensures.puts in
    let named = rw (c.in_ok-row.was, puts) at c.replace.ensures.named in
    let fresh = rw c.in_ok-row.was at c.replace.ensures.fresh in
    rw puts (retold_kept s.rows s.texts c.args.h c.in-Some.row.now is c.self.invariant c.in_ok-row.field-0 c.args.text.now fresh named c.requires.short)

pub returns-clause-after : goal.returns-clause-after
returns-clause-after c =
    let s = c.self.inside in
    let is = sym (rw c.in-Some.is at c.get_mut.ensures.value) in
    let puts = rw c.in_ok-row.was at c.replace.ensures.puts in
    let named = rw (c.in_ok-row.was, puts) at c.replace.ensures.named in
    let fresh = rw c.in_ok-row.was at c.replace.ensures.fresh in
    rw puts (retells s.rows s.texts c.args.h c.in-Some.row.now is c.self.invariant c.in_ok-row.field-0 c.args.text.now fresh named ∙ ap (λ (set : RowSet). with_text set c.args.h c.args.text.now) c.self.view_is)
