use Rattle.std.proofs.Common.{◌≡◌, ◌∙◌, sym, ap, subst, ℕ, ◌<◌, true, false, get_or, below_more, arith}
use Rattle.std.proofs.lemmas.List.{length-map}
use Rattle.gui_base.specs.Area.{Rect, is_within}
use Rattle.gui_damage.specs.Damage.{rects_of}
use Rattle.gui_damage.specs.Joining.{can_join}
use Rattle.gui_base.specs.Corners.{rect_of}
use Rattle.gui_damage.proofs.Joins.{rect_at}
use Rattle.gui_damage.proofs.Replacing.{all_at}
use Rattle.gui_damage.proofs.pairs.partner_of.Given.{Over}
use Rattle.gui_damage.proofs.pairs.partner_of.Goals as goal
use Rattle.gui_damage.proofs.pairs.partner_of.Goals.{After-can_join}

pub can_join-requires : goal.can_join-requires
can_join-requires g c =
    let panel = (g.R.Round.rules c.args.round.now).panel in
    let some = length-map c.args.areas.now rect_of in
    record {
      first = subst (λ (r : Rect). is_within panel r ≡ true) (rect_at c.args.areas.now c.args.i c.index-areas-i.result panel (omega arith) c.index-areas-i.is) (all_at (is_within panel) (rects_of c.args.areas.now) c.args.i panel (omega (arith, some)) c.requires.each);
      second = subst (λ (r : Rect). is_within panel r ≡ true) (rect_at c.args.areas.now c.loop-j.j c.index-areas-j.result panel (omega arith) c.index-areas-j.is) (all_at (is_within panel) (rects_of c.args.areas.now) c.loop-j.j panel (omega (arith, some)) c.requires.each);
    }

-- the test speaks of the listed corners
tested : (g : Over) (c : After-can_join g) (d : Rect) →
    can_join (g.R.Round.rules c.args.round.now).round (get_or (rects_of c.args.areas.now) c.args.i d) (get_or (rects_of c.args.areas.now) c.loop-j.j d) ≡ c.can_join.result
tested g c d =
    ap (λ (a : Rect). can_join (g.R.Round.rules c.args.round.now).round a (get_or (rects_of c.args.areas.now) c.loop-j.j d)) (rect_at c.args.areas.now c.args.i c.index-areas-i.result d (omega arith) c.index-areas-i.is)
    ∙ (ap (can_join (g.R.Round.rules c.args.round.now).round (rect_of c.index-areas-i.result)) (rect_at c.args.areas.now c.loop-j.j c.index-areas-j.result d (omega arith) c.index-areas-j.is) ∙ sym c.can_join.ensures)

pub loop-j-preserved : goal.loop-j-preserved
loop-j-preserved g c = λ j d later below.
    below_more (λ (j : ℕ). c.args.i < j → can_join (g.R.Round.rules c.args.round.now).round (get_or (rects_of c.args.areas.now) c.args.i d) (get_or (rects_of c.args.areas.now) j d) ≡ false) c.loop-j.j
    (λ k h l. c.loop-j.invariant k d l h) (λ l. tested g (goal.at.loop-j-preserved g c).After-can_join d ∙ c.if-can_join.false) j below later
