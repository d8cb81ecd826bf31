use Rattle.std.proofs.lemmas.Option.{IfSome_then}
use Rattle.gui_debts.proofs.seen.Seen.paints_in.Goals as goal

pub returns-in-Some : goal.returns-in-Some
returns-in-Some c = IfSome_then c.paints_in.result c.paints_in.ensures (λ moved is scene h keeps. is scene h (rw c.in-Some.is at keeps))
