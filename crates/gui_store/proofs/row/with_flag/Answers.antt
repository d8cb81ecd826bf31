use Rattle.std.proofs.Common.{◌<◌, arith}
use Rattle.gui_base.specs.declared.words.Flag.{Flag}
use Rattle.gui_base.specs.Bits.{flag_bit}
use Rattle.gui_store.proofs.row.with_flag.Goals as goal

few : (flag : Flag) → flag_bit flag < 8
few flag = grind arith

pub overflow_cast-result : goal.overflow_cast-result
overflow_cast-result c =
    let a = c.with.ensures.below 8 (omega (arith, c.bit.ensures, few c.args.flag)) (omega (arith, c.ranges.flags)) in omega arith
