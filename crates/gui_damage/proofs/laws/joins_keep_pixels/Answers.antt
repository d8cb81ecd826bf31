use Rattle.gui_damage.proofs.Joins.{keeps_pixels}
use Rattle.gui_damage.proofs.laws.joins_keep_pixels.Goals as goal

pub returns : goal.returns
returns c = keeps_pixels
