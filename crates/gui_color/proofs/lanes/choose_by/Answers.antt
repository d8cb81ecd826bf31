use Rattle.gui_color.proofs.Bits.{lanes_choose}
use Rattle.gui_color.proofs.lanes.choose_by.Goals as goal

pub returns : goal.returns
returns c = lanes_choose c.args.byte c.args.yes c.args.no c.fits-yes.0 c.fits-no.0
