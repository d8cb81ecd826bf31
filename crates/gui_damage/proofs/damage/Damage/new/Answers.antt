use Rattle.std.proofs.Common.{◌∙◌, sym, ap, subst, [], ◌∷◌}
use Rattle.gui_base.specs.Area.{Rect}
use Rattle.gui_damage.specs.Pending.{Pending}
use Rattle.gui_damage.specs.Rounded.{IsRounded}
use Rattle.gui_damage.proofs.Rounds.{rounded_one}
use Rattle.gui_damage.proofs.damage.Damage.new.Goals as goal

pub invariant_of-result : goal.invariant_of-result
invariant_of-result g c =
    let rules = g.R.Round.rules c.args.round in
    let panel = ap (λ (p : Pending). p.panel) c.new.ensures ∙ c.requires in
    let areas = ap (λ (p : Pending). p.areas) c.new.ensures ∙ ap (λ (r : Rect). r ∷ []) c.requires in
    (panel, subst (IsRounded rules) (sym areas) (rounded_one rules (g.met.R.Round.sound c.args.round)))
