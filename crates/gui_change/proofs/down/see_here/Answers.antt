use Rattle.std.proofs.Common.{◌∙◌, sym, ap, Option}
use Rattle.std.specs.Prelude.{option_map}
use Rattle.std.proofs.lemmas.Bool.{not-false}
use Rattle.gui_base.specs.Area.{Rect}
use Rattle.gui_base.specs.Corners.{rect_of}
use Rattle.debt_defs.specs.Same.{same_visible}
use Rattle.gui_change.specs.Down.{visible_known}
use Rattle.gui_change.proofs.down.see_here.Goals as goal

pub returns-clause-same : goal.returns-clause-same
returns-clause-same c off =
    ap (λ (v : Option Rect). same_visible v (visible_known c.see_one.new.table c.args.h.0)) (sym c.known_visible-before.ensures)
    ∙ (ap (λ (v : Option Rect). same_visible (option_map rect_of c.known_visible-before.result) v) (sym c.known_visible.ensures)
    ∙ (sym c.same_visible.ensures ∙ not-false c.same_visible.result off))
