use Rattle.std.proofs.Common.{◌≡◌, ◌∙◌, sym, ap, subst, refl, ℕ, ◌*◌, ◌/◌, ◌≤◌, arith}
use Rattle.std.proofs.Math.Nat.{mul-le-mul_right, div-mul-le_self}
use Rattle.gui_base.specs.Area.{Rect, width_of}
use Rattle.gui_base.specs.Corners.{rect_of}
use Rattle.gui_damage.specs.Pending.{Pending}
use Rattle.gui_damage.specs.Rounded.{Rounded, IsRounded, whole_steps}
use Rattle.gui_base.specs.Rounding.{Rounding}
use Rattle.gui_damage.specs.Slices.{HasLine, left_after}
use Rattle.gui_damage.proofs.Rounds.{has_line, rounded_left}
use Rattle.gui_damage.proofs.damage.Damage.take_slice.Given.{Over}
use Rattle.gui_damage.proofs.damage.Damage.take_slice.Goals as goal
use Rattle.gui_damage.proofs.damage.Damage.take_slice.Goals.{After-step-step}

abbrev rules_of : (g : Over) → After-step-step g → Rounding
rules_of g c = g.R.Round.rules c.self.inside.round

wide : (g : Over) (c : After-step-step g) → width_of (rules_of g c).panel * (rules_of g c).step ≤ c.args.limit
wide g c = subst (λ (d : Rounded g.row.R.Denot). width_of (g.R.Round.rules d.round).panel * (g.R.Round.rules d.round).step ≤ c.args.limit) (sym c.self.view_is) c.requires

same : (rules : Rounding) (limit width step : ℕ) (first : Rect) → width ≡ width_of first → step ≡ rules.step → limit / width / step * step * width ≡ whole_steps rules limit first
same rules limit width step first w s = rw (w, s) refl

most_is : (g : Over) (c : After-step-step g) → c.args.limit / c.width-width.result / c.step-step.result * c.step-step.result * c.width-width.result ≡ whole_steps (rules_of g c) c.args.limit (rect_of c.in-Some.first)
most_is g c = same (rules_of g c) c.args.limit c.width-width.result c.step-step.result (rect_of c.in-Some.first) c.width-width.ensures c.step-step.ensures

pub take_slice-requires : goal.take_slice-requires
take_slice-requires g c =
    let d = (goal.at.take_slice-requires g c).After-step-step in
    subst (λ (n : ℕ). HasLine n c.self.inside.list.areas) (sym (most_is g d))
    (has_line (rules_of g d) c.args.limit c.self.inside.list.areas (rect_of c.in-Some.first) (g.met.R.Round.sound c.self.inside.round) c.self.invariant.1 c.in-Some.ensures (wide g d))

pub invariant_of-self : goal.invariant_of-self
invariant_of-self g c =
    let d = (goal.at.invariant_of-self g c).After-step-step in
    let rest = c.take_slice.ensures.rest in
    let left = rounded_left (rules_of g d) c.args.limit c.self.inside.list.areas (rect_of c.in-Some.first) (g.met.R.Round.sound c.self.inside.round) c.self.invariant.1 c.in-Some.ensures (wide g d) in (
      ap (λ (p : Pending). p.panel) rest ∙ c.self.invariant.0,
      subst (λ (p : Pending). IsRounded (rules_of g d) p.areas) (sym rest) (subst (λ (n : ℕ). IsRounded (rules_of g d) (left_after n c.self.inside.list.areas)) (sym (most_is g d)) left),
    )

-- so many lines of a width have no more pixels than the limit
most_fit : (limit width step : ℕ) → (limit / width / step * step ≤ limit) × (limit / width / step * step * width ≤ limit)
most_fit limit width step =
    let lines = div-mul-le_self (limit / width) step in
    let all = mul-le-mul_right width lines in
    (omega (arith, lines), omega (arith, all, div-mul-le_self limit width))

pub overflow_mul-limit : goal.overflow_mul-limit
overflow_mul-limit g c = omega (arith, (most_fit c.args.limit c.width-width.result c.step-step.result).0)

pub overflow_mul-limit-2 : goal.overflow_mul-limit-2
overflow_mul-limit-2 g c = omega (arith, (most_fit c.args.limit c.width-width.result c.step-step.result).1)
