use Rattle.std.proofs.Common.{◌∙◌, ap, refl}
use Rattle.run_defs.specs.Machine.{Machine}
use Rattle.run_defs.proofs.Steps.{step-limits}
use Rattle.rfb_view.proofs.Talks.{over_as}
use Rattle.rfb_view.proofs.talk.Talk.input.Goals as goal

pub returns-clause-over : goal.returns-clause-over
returns-clause-over g c =
    over_as _ _ c.args.self.now _ (ap (λ (m : Machine). m.scene.limits) c.hear.ensures.machine ∙ step-limits (g.V.Viewed.machine c.args.viewed.now) c.args.command.now) refl refl
    c.requires.over.sight c.requires.over
