use Rattle.gui_store.proofs.Common.{arith, parts_of}
use Rattle.gui_store.proofs.Kept.{forest-is}
use Rattle.gui_store.proofs.store.Store.check_parent.Goals as goal

pub returns-then-is_none : goal.returns-then-is_none
returns-then-is_none c = grind (arith, c.requires, c.parent.ensures, c.is_none.ensures, c.if-is_none.true, forest-is (parts_of c.args.self.now))

pub returns : goal.returns
returns c = grind (arith, c.requires, c.parent.ensures, c.is_none.ensures, c.if-is_none.false, forest-is (parts_of c.args.self.now))
