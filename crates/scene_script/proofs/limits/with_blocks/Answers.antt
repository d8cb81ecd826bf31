use Rattle.std.proofs.Common.{◌∙◌, sym}
use Rattle.gui_base.specs.Bounded.{bounds_of}
use Rattle.gui_base.specs.Gridded.{size_in}
use Rattle.scene_script.proofs.LimitLemmas.{blocks_of_test}
use Rattle.scene_script.proofs.limits.with_blocks.Goals as goal

pub set_block-requires : goal.set_block-requires
set_block-requires c = blocks_of_test (bounds_of c.args.limits) (size_in c.in_ok-block.block) (sym c.are_whole.ensures ∙ c.if-not-are_whole.false)
