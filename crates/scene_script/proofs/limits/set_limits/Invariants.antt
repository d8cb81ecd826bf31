use Rattle.std.proofs.Common.{◌≡◌, map, drop}
use Rattle.std.specs.List.{list_all}
use Rattle.run_defs.specs.Words.{sets_a_limit}
use Rattle.scene_script.proofs.limits.set_limits.Given as goal

abbrev pub invariant-loop-word : goal.invariant-loop-word
invariant-loop-word l = list_all sets_a_limit (map (λ w. w.now) (drop l.word-index l.words)) ≡ list_all sets_a_limit (map (λ w. w.now) l.words)
