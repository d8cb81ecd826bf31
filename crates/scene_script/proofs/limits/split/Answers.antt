use Rattle.std.proofs.Common.{◌∙◌, rules, ap, map}
use Rattle.std.proofs.lemmas.Result.{IfErr-weaker, IfOk-weaker}
use Rattle.std.proofs.lemmas.List.{length-map}
use Rattle.clap.specs.Words.{App, is_simple, matches_of, takes}
use Rattle.scene_script.proofs.SplitLemmas.{simple, splits, taken}
use Rattle.scene_script.proofs.limits.split.Goals as goal

pub returns-clause-split : goal.returns-clause-split
returns-clause-split c =
    let is = c.in_ok-command.ensures in
    let words = map (λ w. w.now) c.args.words.now in
    IfOk-weaker c.try_get_matches_from.result _ _ (λ m h. splits words _ c.requires
    ((h (ap is_simple is ∙ simple)).0 ∙ ap (λ (a : App). matches_of a words) is)) c.try_get_matches_from.ensures.matches

pub returns-clause-memory : goal.returns-clause-memory
returns-clause-memory c =
    let is = c.in_ok-command.ensures in
    let words = map (λ w. w.now) c.args.words.now in
    IfErr-weaker c.try_get_matches_from.result _ _ (λ e h three. h (ap (λ (a : App). takes a words) is
    ∙ taken words c.requires (search (rules, length-map)))) c.try_get_matches_from.ensures.passes
