use Rattle.std.proofs.Common.{◌∙◌, sym, ap, subst, refl}
use Rattle.gui_base.specs.Area.{Rect, common}
use Rattle.gui_base.specs.Corners.{rect_of}
use Rattle.gui_edge.proofs.Prefixes.{on_err}
use Rattle.session_defs.specs.Updates.{asked}
use Rattle.rfb_view.specs.Sights.{IsSight}
use Rattle.rfb_view.proofs.Answering.{asked_ready}
use Rattle.rfb_view.proofs.Talks.{broke_by, prefix_none}
use Rattle.rfb_view.proofs.talk.Talk.request.Goals as goal

pub returns-in_err-input-clause-broke : goal.returns-in_err-input-clause-broke
returns-in_err-input-clause-broke g c = on_err c.from_residual.result (broke_by _ _ _ _ refl (prefix_none _ (g.O.Sink.state c.args.out.now)) c.in_err-input.ensures.err)

pub look-requires : goal.look-requires
look-requires g c =
    let o = c.in_ok-input.ensures.over in
    let s = c.input.new.self in record {
      over = record {
        width_is = o.width_is;
        height_is = o.height_is;
        few = o.few;
        sight = subst (IsSight s.width s.height) (sym (c.ask.ensures ∙ ap (λ (r : Rect). asked r s.sight) (c.meet.ensures.corners ∙ ap (common (rect_of c.args.area)) c.panel_area.ensures.corners)))
            (asked_ready s.width s.height (rect_of c.args.area) s.sight o.sight);
      };
    }
