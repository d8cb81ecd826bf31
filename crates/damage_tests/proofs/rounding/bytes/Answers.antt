use Rattle.damage_tests.proofs.Blocks.{bytes as has_blocks}
use Rattle.damage_tests.proofs.rounding.bytes.Goals as goal

pub new-requires : goal.new-requires
new-requires c = has_blocks _ c.at.ensures
