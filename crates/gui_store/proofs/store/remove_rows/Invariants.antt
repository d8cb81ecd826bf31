use Rattle.std.proofs.Common.{◌≡◌, drop}
use Rattle.gui_store.specs.Rows.{HaveRows, set_without}
use Rattle.gui_store.proofs.store.remove_rows.Given as goal

abbrev pub invariant-loop-h : goal.invariant-loop-h
invariant-loop-h l = record {
  have : HaveRows l.rows.rows (drop l.h-index l.handles);
  same : set_without l.rows (drop l.h-index l.handles) ≡ set_without l.fn.rows l.handles;
}
