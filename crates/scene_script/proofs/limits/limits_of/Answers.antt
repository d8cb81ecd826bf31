use Rattle.std.proofs.Common.{◌∙◌, map}
use Rattle.clap.specs.Words.{found_of}
use Rattle.scene_script.proofs.LimitLemmas.{by_split}
use Rattle.scene_script.proofs.limits.limits_of.Goals as goal

pub returns-in-Ok : goal.returns-in-Ok
returns-in-Ok c =
    c.limits_found.ensures ∙ by_split (map (λ w. w.now) c.args.words.now) (found_of c.in-Ok.matches) c.in-Ok.ensures.split
