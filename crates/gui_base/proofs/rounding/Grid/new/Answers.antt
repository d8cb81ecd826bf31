use Rattle.gui_base.specs.Corners.{rect_of}
use Rattle.gui_base.proofs.Blocks.{blocks_sound}
use Rattle.gui_base.proofs.rounding.Grid.new.Goals as goal

pub invariant_of-result : goal.invariant_of-result
invariant_of-result c = record {
  whole = c.requires;
  sound = blocks_sound c.args.block.w c.args.block.h (rect_of c.args.panel) c.args.block.sizes c.requires;
}
