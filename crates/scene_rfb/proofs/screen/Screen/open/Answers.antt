use Rattle.std.proofs.Common.{ap}
use Rattle.gui_base.specs.Bounded.{bounds_of}
use Rattle.scene_rfb.proofs.Shown.{opened_shown}
use Rattle.scene_rfb.proofs.screen.Screen.open.Goals as goal

pub invariant_of-result : goal.invariant_of-result
invariant_of-result c = record {
  shown = opened_shown c.in_ok-gui.gui c.in_ok-panel.panel (bounds_of c.args.limits.now) (ap (λ m. m.scene.limits) c.in_ok-gui.ensures.machine) c.in_ok-panel.ensures.sizes c.in_ok-panel.ensures.still c.in_ok-gui.ensures.still
      c.in_ok-gui.ensures.agrees;
}
