use Rattle.std.proofs.Common.{ap}
use Rattle.std.proofs.Math.Nat.{mod-one}
use Rattle.gui_base.specs.Area.{width_of, height_of}
use Rattle.gui_base.specs.Corners.{rect_of}
use Rattle.gui_base.specs.Gridded.{size_in}
use Rattle.gui_base.proofs.rounding.Grid.of_pixels.Goals as goal

pub new-requires : goal.new-requires
new-requires c =
    let panel = rect_of c.args.panel in
    record { left = c.requires.left; top = c.requires.top; some = c.requires.some; wide = mod-one (width_of panel); high = mod-one (height_of panel) }

pub returns-clause-pixels : goal.returns-clause-pixels
returns-clause-pixels c = ap size_in c.new.ensures.block
