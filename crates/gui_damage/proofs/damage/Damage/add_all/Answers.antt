use Rattle.std.proofs.Common.{◌≡◌, ◌∙◌, sym, ap, subst, ℕ, ◌+◌, ◌<◌, length, List, ◌∷◌, [], get_or, map, take}
use Rattle.std.proofs.lemmas.List.{map_more, take_all}
use Rattle.std.proofs.lemmas.List.Sums.{fold-append}
use Rattle.gui_base.specs.declared.area.Area.{Area}
use Rattle.gui_base.specs.Corners.{rect_of}
use Rattle.gui_base.specs.Rounding.{Rounding}
use Rattle.gui_damage.specs.Adding.{AddsAll}
use Rattle.gui_damage.specs.Damage.{rects_of}
use Rattle.gui_damage.specs.Pending.{IsPending}
use Rattle.gui_damage.specs.Rounded.{Rounded, pending_in, added_to, added_all_to}
use Rattle.gui_damage.proofs.RoundAdditions.{adds_roundings}
use Rattle.gui_damage.proofs.damage.Damage.add_all.Goals as goal

-- one area more
one_more : {R : Type 0} (rules : R → Rounding) (d : Rounded R) (areas : List Area) (i : ℕ) (area : Area) → i < length areas → area ≡ get_or areas i area →
    added_all_to rules d (rects_of (take (i + 1) areas)) ≡ added_to rules (added_all_to rules d (rects_of (take i areas))) (rect_of area)
one_more rules d areas i area h e =
    ap (added_all_to rules d) (map_more rect_of areas i area h)
    ∙ (fold-append (added_to rules) d (rects_of (take i areas)) (rect_of (get_or areas i area) ∷ []) ∙ ap (λ (a : Area). added_to rules (added_all_to rules d (rects_of (take i areas))) (rect_of a)) (sym e))

pub loop-area-preserved : goal.loop-area-preserved
loop-area-preserved g c =
    let rules = g.R.Round.rules in
    c.add.ensures.list
    ∙ (ap (λ (d : Rounded g.row.R.Denot). added_to rules d (rect_of c.area-item.result)) c.loop-area.invariant
    ∙ sym (one_more rules c.args.self.now c.args.areas.now c.loop-area.area-index c.area-item.result c.loop-area-test.true c.area-item.is))

pub returns-clause-list : goal.returns-clause-list
returns-clause-list g c = c.loop-area.invariant ∙ ap (λ (xs : List Area). added_all_to g.R.Round.rules c.args.self.now (rects_of xs)) (take_all c.loop-area.area-index c.args.areas.now c.loop-area-test.false)

pub returns-clause-adds : goal.returns-clause-adds
returns-clause-adds g c =
    let rules = g.R.Round.rules in
    let all = c.loop-area.invariant ∙ ap (λ (xs : List Area). added_all_to rules c.args.self.now (rects_of xs)) (take_all c.loop-area.area-index c.args.areas.now c.loop-area-test.false) in
    let sound = subst (λ (d : Rounded g.row.R.Denot). IsPending (pending_in rules d)) c.self.view_is c.self.invariant.1.pending in
    subst (λ (d : Rounded g.row.R.Denot). AddsAll (pending_in rules c.args.self.now) (pending_in rules d) (map (rules c.args.self.now.round).round (rects_of c.args.areas.now))) (sym all)
    (adds_roundings rules (rects_of c.args.areas.now) c.args.self.now (g.met.R.Round.sound c.args.self.now.round) sound c.requires)
