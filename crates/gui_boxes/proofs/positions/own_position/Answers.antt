use Rattle.std.proofs.Common.{rules}
use Rattle.gui_boxes.proofs.positions.own_position.Goals as goal

pub returns-clause-close : goal.returns-clause-close
returns-clause-close c = record { left = search rules; right = search rules; top = search rules; bottom = search rules }
