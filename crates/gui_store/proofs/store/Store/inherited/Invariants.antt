use Rattle.std.proofs.Common.{◌≡◌, true}
use Rattle.std.specs.List.{All}
use Rattle.gui_base.specs.Forest.{has}
use Rattle.gui_store.specs.Values.{inherited_at, inherited_along}
use Rattle.gui_store.specs.Views.{parts_of}
use Rattle.gui_store.proofs.store.Store.inherited.Given as goal

abbrev pub invariant-loop-k : goal.invariant-loop-k
invariant-loop-k l = record {
  rest : inherited_at (parts_of l.self) l.fn.h.0 l.prop ≡ inherited_along (parts_of l.self) l.k-iterator l.prop;
  there : All (λ k. has l.self.tree.forest k ≡ true) l.k-iterator;
}
