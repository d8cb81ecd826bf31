use Rattle.std.proofs.Common.{◌≡◌, ◌∙◌, rules, ap, false}
use Rattle.std.proofs.lemmas.Result.{IfOk-weaker}
use Rattle.clap.specs.Words.{app_of, rule_of, with_rule}
use Rattle.scene_script.specs.CommandLine.{needed}
use Rattle.scene_script.proofs.limits.with_needed.Goals as goal

pub returns : goal.returns
returns c =
    let rule : rule_of c.required.result ≡ needed c.args.name.now = search rules in
    let own : c.required.result.global ≡ false = search rules in
    IfOk-weaker c.arg.result _ _ (λ r adds. adds.shape own ∙ ap (with_rule (app_of c.args.command)) rule) c.arg.ensures
