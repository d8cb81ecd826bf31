use Rattle.std.proofs.Common.{◌≡◌, ◌∙◌, refl, sym, ap, subst, ◌<◌, true, false, length, get_or, List, AllPairs, arith}
use Rattle.std.proofs.lemmas.List.{length-map}
use Rattle.gui_base.specs.Area.{Rect, joined, is_within}
use Rattle.gui_base.specs.Corners.{rect_of}
use Rattle.gui_base.specs.Rounding.{Rounding, IsRounding}
use Rattle.gui_damage.specs.Joining.{can_join, joined_at, IsPair, JoinsPair, JoinsPairs, none, one_more, JoinsAll}
use Rattle.gui_damage.specs.Pending.{Pending}
use Rattle.gui_damage.specs.Rounded.{Rounded, IsRounded, pending_by, pending_in}
use Rattle.gui_damage.proofs.Joins.{rect_at, within_joined, pair_length, joins_pair}
use Rattle.gui_damage.proofs.Replacing.{all_at, rounded_joined}
use Rattle.gui_damage.proofs.damage.Damage.join_all.Given.{Over}
use Rattle.gui_damage.proofs.damage.Damage.join_all.Goals as goal
use Rattle.gui_damage.proofs.damage.Damage.join_all.Goals.{After-join}

module _ (g : Over) (c : After-join g) where
  abbrev rules : Rounding
  rules = g.R.Round.rules c.loop-i.self-inside.round

  abbrev areas : List Rect
  areas = c.loop-i.self-inside.list.areas

  abbrev a : Rect
  a = rect_of c.index-areas-i.result

  abbrev b : Rect
  b = rect_of c.index-areas-j.result

  is : IsRounding rules
  is = g.met.R.Round.sound c.loop-i.self-inside.round

  pair : IsPair rules.round areas c.in-Some.i c.in-Some.j
  pair = subst (λ (xs : List Rect). IsPair rules.round xs c.in-Some.i c.in-Some.j) c.areas.ensures.areas c.in-Some.ensures

  later : c.in-Some.i < c.in-Some.j
  later = pair.later

  within : c.in-Some.j < length c.areas-areas.result.now
  within = omega (arith, pair.within, length-map c.areas-areas.result.now rect_of, ap length c.areas-areas.ensures.areas)

  first : (d : Rect) → get_or areas c.in-Some.i d ≡ a
  first d = subst (λ (xs : List Rect). get_or xs c.in-Some.i d ≡ a) c.areas-areas.ensures.areas (rect_at c.areas-areas.result.now c.in-Some.i c.index-areas-i.result d (omega (arith, later, within)) c.index-areas-i.is)

  second : (d : Rect) → get_or areas c.in-Some.j d ≡ b
  second d = subst (λ (xs : List Rect). get_or xs c.in-Some.j d ≡ b) c.areas-areas.ensures.areas (rect_at c.areas-areas.result.now c.in-Some.j c.index-areas-j.result d within c.index-areas-j.is)

  -- both lie in the panel, and so does their join
  join_inside : is_within rules.panel (joined a b) ≡ true
  join_inside =
      let each = c.loop-i.invariant.sound.pending.each in
      within_joined rules.panel a b
      (subst (λ (r : Rect). is_within rules.panel r ≡ true) (first rules.panel) (all_at (is_within rules.panel) areas c.in-Some.i rules.panel (omega (arith, later, pair.within)) each))
      (subst (λ (r : Rect). is_within rules.panel r ≡ true) (second rules.panel) (all_at (is_within rules.panel) areas c.in-Some.j rules.panel pair.within each))

  step : JoinsPair rules.round areas (joined_at areas c.in-Some.i c.in-Some.j (rules.round (joined a b)))
  step = joins_pair rules.round areas c.in-Some.i c.in-Some.j a b pair first second (is.holds (joined a b) join_inside)

  rounded_is : (r : Rect) → r ≡ rules.round (rect_of c.join.result) → r ≡ rules.round (joined a b)
  rounded_is r e = e ∙ ap rules.round c.join.ensures.corners

  -- what is listed after the pair was joined
  now_is : (r : Rect) (now : Pending) → now ≡ record c.loop-i.self-inside.list { areas = joined_at areas c.in-Some.i c.in-Some.j r } → r ≡ rules.round (rect_of c.join.result) →
      now.areas ≡ joined_at areas c.in-Some.i c.in-Some.j (rules.round (joined a b))
  now_is r now e f = ap (λ (p : Pending). p.areas) e ∙ ap (joined_at areas c.in-Some.i c.in-Some.j) (rounded_is r f)

pub round-join-requires : goal.round-join-requires
round-join-requires g c = subst (λ (r : Rect). is_within (rules g c).panel r ≡ true) (sym c.join.ensures.corners) (join_inside g c)

same_within : (p q a b : Rect) → p ≡ q → a ≡ b → is_within q b ≡ true → is_within p a ≡ true
same_within p q a b e f h = rw (e, f) h

pub replace-requires-clause-area : goal.replace-requires-clause-area
replace-requires-clause-area g c =
    let d = (goal.at.replace-requires-clause-area g c).After-join in
    same_within _ _ _ _ c.loop-i.invariant.panel (rounded_is g d (rect_of c.round-join.result) c.round-join.ensures) ((is g d).inside (joined (a g d) (b g d)) (join_inside g d))

pub loop-i-smaller : goal.loop-i-smaller
loop-i-smaller g c =
    let d = (goal.at.loop-i-smaller g c).After-join in
    let now = now_is g d (rect_of c.round-join.result) c.replace.new.self c.replace.ensures c.round-join.ensures in
    omega (arith, ap length now, pair_length _ _ _ (step g d))

pub loop-i-preserved : goal.loop-i-preserved
loop-i-preserved g c =
    let d = (goal.at.loop-i-preserved g c).After-join in
    let inv = c.loop-i.invariant in
    let now = now_is g d (rect_of c.round-join.result) c.replace.new.self c.replace.ensures c.round-join.ensures in
    let inside = join_inside g d in
    let p = pair g d in
    record {
      round = inv.round;
      panel = ap (λ (p : Pending). p.panel) c.replace.ensures ∙ inv.panel;
      joins = subst (JoinsPairs (rules g d).round c.self.inside.list.areas) (sym now) (one_more inv.joins (step g d));
      sound = subst (IsRounded (rules g d)) (sym now)
          (rounded_joined (rules g d) (areas g d) c.in-Some.i c.in-Some.j ((rules g d).round (joined (a g d) (b g d))) inv.sound p.later p.within ((is g d).inside _ inside) ((is g d).again _ inside));
    }

pub loop-i-init : goal.loop-i-init
loop-i-init g c = record { round = refl; panel = c.self.invariant.0; joins = none; sound = c.self.invariant.1 }

pub returns-clause-joins : goal.returns-clause-joins
returns-clause-joins g c =
    let inv = c.loop-i.invariant in
    let rules = g.R.Round.rules in
    let now = c.loop-i.self-inside in
    let apart = subst (λ (xs : List Rect). AllPairs (λ a b. can_join (rules now.round).round a b ≡ false) xs) c.areas.ensures.areas c.in_default.ensures in
    subst (λ (d : Rounded g.row.R.Denot). JoinsAll (rules d.round).round (pending_in rules d) (pending_by (rules now.round) now.list.areas)) c.self.view_is
    (subst (λ (r : g.row.R.Denot). JoinsAll (rules r).round (pending_by (rules c.self.inside.round) c.self.inside.list.areas) (pending_by (rules now.round) now.list.areas)) inv.round (record {
      panel = ap (λ (r : g.row.R.Denot). (rules r).panel) inv.round;
      joins = inv.joins;
      apart = apart;
    }))
