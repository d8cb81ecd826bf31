use Rattle.std.proofs.Common.{◌≡◌, ◌∙◌, sym, ap, subst, true, false}
use Rattle.gui_base.specs.Area.{Rect, is_empty, common, is_within}
use Rattle.gui_base.specs.Corners.{rect_of}
use Rattle.gui_base.specs.Rounding.{Rounding}
use Rattle.gui_damage.specs.Adding.{added}
use Rattle.gui_damage.specs.Pending.{Pending}
use Rattle.gui_damage.specs.Rounded.{IsRounded, pending_by}
use Rattle.gui_damage.proofs.Listed.{within_common}
use Rattle.gui_damage.proofs.Rounds.{rounded_added}
use Rattle.gui_damage.proofs.damage.Damage.add.Given.{Over}
use Rattle.gui_damage.proofs.damage.Damage.add.Goals as goal
use Rattle.gui_damage.proofs.damage.Damage.add.Goals.{After-is_empty}

abbrev rules_in : (g : Over) → After-is_empty g → Rounding
rules_in g c = g.R.Round.rules c.self.inside.round

-- the part of the panel
part_is : (g : Over) (c : After-is_empty g) → rect_of c.meet-part.result ≡ common (rect_of c.args.area) (rules_in g c).panel
part_is g c = c.meet-part.ensures.corners ∙ ap (common (rect_of c.args.area)) (c.panel.ensures ∙ c.self.invariant.0)

inside : (panel area met : Rect) → met ≡ common area panel → is_empty met ≡ false → is_within panel met ≡ true
inside panel area met e some = subst (λ (r : Rect). is_within panel r ≡ true) (sym e) (within_common panel area (ap is_empty (sym e) ∙ some))

part_inside : (g : Over) (c : After-is_empty g) → c.is_empty.result ≡ false → is_within (rules_in g c).panel (rect_of c.meet-part.result) ≡ true
part_inside g c some = inside (rules_in g c).panel (rect_of c.args.area) (rect_of c.meet-part.result) (part_is g c) (sym c.is_empty.ensures ∙ some)

pub round-requires : goal.round-requires
round-requires g c = part_inside g (goal.at.round-requires g c).After-is_empty c.if-not-is_empty.true

pub invariant_of-self : goal.invariant_of-self
invariant_of-self g c =
    let d = (goal.at.invariant_of-self g c).After-is_empty in
    let rules = rules_in g d in
    let before : c.self.inside.list ≡ pending_by rules c.self.inside.list.areas = ap (λ (p : Rect). record { panel = p; areas = c.self.inside.list.areas }) c.self.invariant.0 in
    let now : c.add.new.self ≡ added (pending_by rules c.self.inside.list.areas) (rules.round (rect_of c.meet-part.result)) = c.add.ensures.list ∙ (ap (added c.self.inside.list) c.round.ensures ∙ ap (λ (p : Pending). added p (rules.round (rect_of c.meet-part.result))) before) in
    (c.add.ensures.panel ∙ c.self.invariant.0, subst (λ (p : Pending). IsRounded rules p.areas) (sym now) (rounded_added rules c.self.inside.list.areas (rect_of c.meet-part.result) (g.met.R.Round.sound c.self.inside.round) c.self.invariant.1 (part_inside g d c.if-not-is_empty.true)))
