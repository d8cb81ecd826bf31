use Rattle.std.proofs.Common.{length}
use Rattle.std.specs.Str.{chars}
use Rattle.gui_font.specs.Sets.{face_in}
use Rattle.gui_font.specs.Walks.{setting}
use Rattle.gui_font.proofs.Scanning.{Scanned}
use Rattle.gui_font.proofs.lines.first_line.Given as goal

abbrev pub invariant-letters : goal.invariant-letters
invariant-letters l = Scanned (setting (face_in l.fonts l.look.font) l.look l.most) (chars l.text) (length l.text) l.stop.count l.stop l.space

abbrev pub decreases-letters : goal.decreases-letters
decreases-letters l = length l.stop.rest.now
