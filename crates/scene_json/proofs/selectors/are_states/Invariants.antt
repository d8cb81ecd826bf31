use Rattle.std.proofs.Common.{◌≡◌, [], length}
use Rattle.std.specs.List.{slice_split}
use Rattle.std.specs.Option.{option_map_or}
use Rattle.std.specs.Prelude.{is_some}
use Rattle.run_defs.specs.Selectors.{is_plus}
use Rattle.scene_json.specs.Words.{are_states, with_new_states}
use Rattle.scene_json.proofs.selectors.are_states.Given as goal

-- the names to come are to the set so far what all of them are to the empty one
abbrev pub invariant-loop-rest : goal.invariant-loop-rest
invariant-loop-rest l =
    is_some (with_new_states l.set.0 (option_map_or (λ rest. slice_split is_plus rest.now) l.rest []))
    ≡ are_states (slice_split is_plus l.names)

abbrev pub decreases-loop-rest : goal.decreases-loop-rest
decreases-loop-rest l = length (option_map_or (λ rest. slice_split is_plus rest.now) l.rest [])
