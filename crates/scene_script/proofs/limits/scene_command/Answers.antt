use Rattle.std.proofs.Common.{◌≡◌, ◌∙◌, rules, ap, ap₂, true, false, codes}
use Rattle.std.proofs.lemmas.Result.{IfOk-weaker}
use Rattle.clap.specs.Words.{App, app_of, new_app, rule_of, with_rule}
use Rattle.clap.specs.Simple.{app_of_fields, on_top}
use Rattle.scene_script.specs.CommandLine.{further_rule, needed}
use Rattle.scene_script.proofs.limits.scene_command.Goals as goal

abbrev bare_app : App
bare_app = on_top (λ s. record s { no_binary_name = true; disable_help_flag = true }) (new_app (codes "scene"))

pub returns : goal.returns
returns c =
    let bare : app_of c.disable_help_flag-bare.result ≡ bare_app =
    ap app_of_fields c.disable_help_flag-bare.ensures
    ∙ ap (λ (a : App). on_top (λ s. record s { disable_help_flag = true }) a) (ap app_of_fields c.no_binary_name.ensures
    ∙ ap (λ (a : App). on_top (λ s. record s { no_binary_name = true }) a) c.new.ensures.app) in
    let three = c.in_ok-three.ensures
    ∙ ap (λ (a : App). with_rule a (needed (codes "lines"))) (c.in_ok-two.ensures
    ∙ ap (λ (a : App). with_rule a (needed (codes "height"))) (c.in_ok-one.ensures
    ∙ ap (λ (a : App). with_rule a (needed (codes "width"))) bare)) in
    let further : rule_of c.action.result ≡ further_rule = search rules in
    let own : c.action.result.global ≡ false = search rules in
    IfOk-weaker c.arg.result _ _ (λ r adds. adds.shape own ∙ ap₂ with_rule three further) c.arg.ensures
