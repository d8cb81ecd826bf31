use Rattle.layout_defs.proofs.Boxes.{solved_keeps_boxes}
use Rattle.layout_defs.proofs.Small.{naturals_small, solved_small}
use Rattle.layout_defs.proofs.laws.solved_sizes_are_small.Goals as goal

pub returns : goal.returns
returns c = record { boxes = solved_keeps_boxes; naturals = naturals_small; sizes = solved_small }
