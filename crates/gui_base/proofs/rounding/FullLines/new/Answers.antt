use Rattle.gui_base.specs.Corners.{rect_of}
use Rattle.gui_base.proofs.Lined.{lines_sound}
use Rattle.gui_base.proofs.rounding.FullLines.new.Goals as goal

pub invariant_of-result : goal.invariant_of-result
invariant_of-result c = record { sound = lines_sound (rect_of c.args.panel) c.requires }
