use Rattle.damage_tests.proofs.Blocks.{four_by_two as has_blocks}
use Rattle.damage_tests.proofs.rounding.four_by_two.Goals as goal

pub new-requires : goal.new-requires
new-requires c = has_blocks _ c.at.ensures
