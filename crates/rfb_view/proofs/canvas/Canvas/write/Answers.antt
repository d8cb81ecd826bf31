use Rattle.std.proofs.Common.{◌∙◌, sym}
use Rattle.rfb_view.proofs.Writing.{none_shown, none_lent}
use Rattle.rfb_view.proofs.canvas.Canvas.write.Goals as goal

pub returns-in_default : goal.returns-in_default
returns-in_default c = none_shown _ _ _ _ _ c.requires.inside c.requires.all (sym c.self.view_is ∙ none_lent _ _ c.in_default.is)
