use Rattle.std.proofs.Common.{None, refl}
use Rattle.gui_debts.proofs.Sparing.{none-keep}
use Rattle.gui_debts.proofs.seen.paints_kept.Goals as goal

pub returns-in-None : goal.returns-in-None
returns-in-None c scene h known = none-keep scene h None refl
