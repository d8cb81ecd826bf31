use Rattle.std.proofs.Common.{◌≡◌, ◌+◌, ◌*◌, ◌≤◌, ◌++◌, flat_map, take}
use Rattle.arrayvec.specs.ArrayVec.{array_vec_len}
use Rattle.gui_core.specs.Machines.{machine_of}
use Rattle.scene_ask.specs.Asking.{pool_says}
use Rattle.scene_ask.proofs.slots.push_pools.Given as goal

-- what is in use of the pools so far was added
abbrev pub invariant-loop-pool : goal.invariant-loop-pool
invariant-loop-pool l = record {
  items : l.text.items ≡ l.initial.text.items ++ flat_map (pool_says (machine_of l.gui)) (take l.pool-index l.pools);
  len : array_vec_len l.text ≤ array_vec_len l.initial.text + 51 * l.pool-index;
}
