use Rattle.gui_color.proofs.Kernel.{kernel_lane}
use Rattle.gui_color.proofs.lanes.mix_lanes.Goals as goal

pub returns : goal.returns
returns c = kernel_lane 8 c.args.fg c.args.bg c.args.opas c.fits-fg.0 c.fits-bg.0 c.fits-opas.0 c.fits-fg.1 c.fits-bg.1 c.requires
