use Rattle.std.proofs.Common.{◌≡◌, [], length}
use Rattle.std.specs.List.{slice_split}
use Rattle.std.specs.Option.{option_map_or}
use Rattle.run_defs.specs.Selectors.{is_plus, with_states}
use Rattle.scene_script.proofs.selectors.states_of.Given as goal

abbrev pub invariant-loop-rest : goal.invariant-loop-rest
invariant-loop-rest l =
    with_states l.states.0 (option_map_or (λ rest. slice_split is_plus rest.now) l.rest []) ≡ with_states 0 (slice_split is_plus l.names)

abbrev pub decreases-loop-rest : goal.decreases-loop-rest
decreases-loop-rest l = length (option_map_or (λ rest. slice_split is_plus rest.now) l.rest [])
