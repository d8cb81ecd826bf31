use Rattle.std.proofs.Common.{◌∙◌, ap, ◌*◌, length, arith}
use Rattle.std.proofs.lemmas.List.{length-replicate}
use Rattle.gui_base.specs.Gridded.{size_in}
use Rattle.gui_edge.specs.SimPanel.{IsFlying}
use Rattle.gui_edge.specs.declared.sim_panel.TheConstants.{UNWRITTEN}
use Rattle.gui_edge.proofs.Flying.{none_flying}
use Rattle.rfb_view.specs.ViewPanel.{ViewState}
use Rattle.rfb_view.proofs.view_panel.ViewPanelPanel.open.Goals as goal

pub invariant_of-self-inside : goal.invariant_of-self-inside
invariant_of-self-inside c =
    let closed = ap (λ (p : ViewState). p.limit) c.self.view_is ∙ c.requires.closed in
    let len = ap length c.in-Ok.ensures ∙ length-replicate (c.from.result * c.from-2.result) UNWRITTEN in
    (grind (arith, len, c.from.ensures, c.from-2.ensures), (λ buf is. absurd {A = IsFlying c.args.width c.args.height c.args.limit (size_in c.args.block) buf} (none_flying _ _ _ _ buf closed (c.self.inside.flying buf is)), tt))
