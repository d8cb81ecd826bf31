use Rattle.std.proofs.Common.{◌≡◌, map, drop}
use Rattle.std.specs.List.{list_any}
use Rattle.scene_script.specs.CommandLine.{begins_with_dash}
use Rattle.scene_script.proofs.limits.has_dash.Given as goal

abbrev pub invariant-loop-word : goal.invariant-loop-word
invariant-loop-word l = list_any begins_with_dash (map (λ w. w.now) (drop l.word-index l.words)) ≡ list_any begins_with_dash (map (λ w. w.now) l.words)
