use Rattle.std.proofs.Common.{◌∙◌, sym}
use Rattle.gui_layout.proofs.touching.touch_there.Goals as goal

pub touch_up-requires-clause-there : goal.touch_up-requires-clause-there
touch_up-requires-clause-there c = sym c.has.ensures ∙ c.if-has.true

pub touch_up-requires-clause-listed : goal.touch_up-requires-clause-listed
touch_up-requires-clause-listed c = c.requires.listed (sym c.has.ensures ∙ c.if-has.true)

pub returns-then-has-clause-closed : goal.returns-then-has-clause-closed
returns-then-has-clause-closed c s was = c.touch_up.ensures.closed s (λ k p there looked is parent out. was k p there looked is parent)
