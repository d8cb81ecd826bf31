use Rattle.std.proofs.Common.{◌≡◌, map, filter_map, length}
use Rattle.scene_script.specs.CommandLine.{setting_by}
use Rattle.scene_script.proofs.limits.first_setting.Given as goal

abbrev pub invariant-loop-words : goal.invariant-loop-words
invariant-loop-words l =
    filter_map (setting_by l.fn.key) (map (λ w. w.now) l.words) ≡ filter_map (setting_by l.fn.key) (map (λ w. w.now) l.fn.words)

abbrev pub decreases-loop-words : goal.decreases-loop-words
decreases-loop-words l = length l.words
