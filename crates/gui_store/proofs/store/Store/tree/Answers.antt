use Rattle.gui_store.proofs.Common.{sym, parts_of}
use Rattle.gui_store.proofs.Kept.{forest-is}
use Rattle.gui_store.proofs.store.Store.tree.Goals as goal

pub returns-clause-forest : goal.returns-clause-forest
returns-clause-forest c = sym (forest-is (parts_of c.args.self.now))
