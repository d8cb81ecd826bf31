use Rattle.std.proofs.Common.{◌∙◌, ap}
use Rattle.gui_base.specs.Limits.{with_sizes}
use Rattle.meter.proofs.Ready.{opened_ready}
use Rattle.meter.proofs.run.Goals as goal

pub show_numbers-requires : goal.show_numbers-requires
show_numbers-requires c =
    opened_ready _ _ (with_sizes 64 24 8) (ap (λ m. m.scene.limits) c.in_ok-gui.ensures.machine ∙ c.with_sizes.ensures) c.in_ok-panel.ensures.sizes
    c.in_ok-panel.ensures.still c.in_ok-gui.ensures.still c.in_ok-gui.ensures.agrees
