use Rattle.std.proofs.Common.{◌≡◌, sym, subst, refl, true}
use Rattle.gui_base.specs.Area.{Rect, is_within}
use Rattle.gui_base.specs.Gridded.{rules_of}
use Rattle.gui_base.specs.Rounding.{IsRound}
use Rattle.gui_damage.specs.Gridded.{listed_in}
use Rattle.gui_refresh.specs.Stages.{stage}
use Rattle.gui_refresh.proofs.Drawing.{own_area}
use Rattle.gui_refresh.proofs.refresher.Refresher.poll.Goals as goal

pub add-requires : goal.add-requires
add-requires g c =
    let panel = c.args.panel.now in
    let grid = c.args.damage.now.round in
    let now = stage c.args.self.now (g.P.Panel.state panel) (listed_in c.args.damage.now) in
    let own = own_area now grid c.in-Failed.buf c.requires.can refl c.requires.blocks (g.met.P.Panel.flying panel c.in-Failed.buf c.in-Failed.ensures.was) in
    record {
      inside = subst (λ (r : Rect). is_within (rules_of grid).panel r ≡ true) (sym c.area.ensures) own.0;
      blocks = subst (IsRound (rules_of grid)) (sym c.area.ensures) own.1;
    }
