use Rattle.std.proofs.Common.{sym, ◌∙◌}
use Rattle.gui_pool.proofs.Keys.{value_is, value_past}
use Rattle.gui_pool.proofs.table.Table.get.Goals as goal

pub returns-then-key-self : goal.returns-then-key-self
returns-then-key-self g c =
    let s = c.self.inside in
    rw (← c.self.view_is) (sym (value_past s.buckets s.mask s.keys c.args.key c.if-key-self.true))

pub returns : goal.returns
returns g c =
    let s = c.self.inside in
    rw (← c.self.view_is) (c.find_in.ensures ∙ sym (value_is s.buckets s.mask s.keys c.args.key c.if-key-self.false))
