use Rattle.std.proofs.Common.{◌∙◌, not, sym, ap, is_some}
use Rattle.gui_change.proofs.Reordering.{copied-some}
use Rattle.gui_change.proofs.replanted.stays_shown.Goals as goal

pub returns-clause-was : goal.returns-clause-was
returns-clause-was c shown = ap is_some (sym c.get.ensures) ∙ (copied-some c.get.result ∙ (c.is_none.ensures ∙ ap not c.if-is_none.false))
