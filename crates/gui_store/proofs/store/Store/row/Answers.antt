use Rattle.gui_store.proofs.Common.{arith, parts_of}
use Rattle.gui_store.proofs.Kept.{named, in_range, read-on, read-at, read-row}
use Rattle.gui_store.proofs.store.Store.row.Goals as goal

pub returns-clause-value : goal.returns-clause-value
returns-clause-value c = read-row (parts_of c.args.self.now) c.args.self.now.kept c.args.h.0 _ c.get.ensures.value

pub returns-clause-handle : goal.returns-clause-handle
returns-clause-handle c =
    let p = parts_of c.args.self.now in
    grind (arith, c.get.ensures.value, read-on p c.args.self.now.kept c.args.h.0, named p c.args.self.now.kept c.args.h.0)

pub returns-clause-in_range : goal.returns-clause-in_range
returns-clause-in_range c =
    let p = parts_of c.args.self.now in
    grind (arith, c.get.ensures.value, read-at p c.args.self.now.kept c.args.h.0, read-on p c.args.self.now.kept c.args.h.0, in_range p c.args.self.now.kept c.args.h.0)
