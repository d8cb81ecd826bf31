use Rattle.std.proofs.Common.{◌∙◌, sym}
use Rattle.widget_defs.specs.Kinds.{shows}
use Rattle.gui_layout.proofs.SceneBoxes.{no_width-by}
use Rattle.gui_layout.proofs.objects.own_width_of.Goals as goal

pub returns-then-not-has_own_size-clause-value : goal.returns-then-not-has_own_size-clause-value
returns-then-not-has_own_size-clause-value c = no_width-by (shows c.args.row.now.kind) _ (sym c.has_own_size.ensures ∙ c.if-not-has_own_size.true)
