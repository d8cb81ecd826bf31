use Rattle.std.proofs.Common.{◌≡◌, map, fold, take}
use Rattle.std.specs.Option.{option_map}
use Rattle.gui_base.specs.Bounded.{bounds_of}
use Rattle.run_defs.specs.Words.{with_pool}
use Rattle.scene_script.proofs.limits.with_each.Given as goal

abbrev pub invariant-loop-pool : goal.invariant-loop-pool
invariant-loop-pool l = option_map bounds_of l.limits ≡ fold (with_pool (map (λ w. w.now) l.words)) (option_map bounds_of l.fn.limits) (take l.pool-index l.pools)
