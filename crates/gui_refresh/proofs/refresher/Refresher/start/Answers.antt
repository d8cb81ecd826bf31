use Rattle.std.proofs.Common.{◌≡◌, ◌∙◌, sym, subst, refl, ap, true}
use Rattle.gui_base.specs.Area.{Rect, is_within}
use Rattle.gui_base.specs.Gridded.{rules_of}
use Rattle.gui_base.specs.Rounding.{IsRound}
use Rattle.gui_damage.specs.Gridded.{listed_in}
use Rattle.gui_refresh.specs.Stages.{Refreshing, stage}
use Rattle.gui_refresh.proofs.Drawing.{own_area}
use Rattle.gui_refresh.proofs.refresher.Refresher.start.Goals as goal

pub add-requires : goal.add-requires
add-requires g c =
    let grid = c.args.damage.now.round in
    let now = stage c.args.self.now (g.P.Panel.state c.args.panel.now) (listed_in c.args.damage.now) in
    let drawn = sym (ap (λ (r : Refreshing). r.drawn) c.self.view_is) ∙ (sym c.take.ensures.value ∙ c.in-Some.is) in
    let own = own_area now grid c.in-Some.buf c.requires.can refl c.requires.blocks (c.requires.part c.in-Some.buf drawn) in
    let same = sym c.area-area.ensures in
    record {
      inside = subst (λ (r : Rect). is_within (rules_of grid).panel r ≡ true) same own.0;
      blocks = subst (IsRound (rules_of grid)) same own.1;
    }
