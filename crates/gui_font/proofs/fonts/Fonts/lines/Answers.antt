use Rattle.std.proofs.Common.{ap, map}
use Rattle.gui_font.specs.Walks.{line_of}
use Rattle.gui_font.proofs.LineLists.{runs_first}
use Rattle.gui_font.proofs.fonts.Fonts.lines.Goals as goal

pub returns-clause-runs : goal.returns-clause-runs
returns-clause-runs c = rw c.most_pixels.ensures (runs_first _ c.args.text)

pub returns-clause-lines : goal.returns-clause-lines
returns-clause-lines c = rw c.most_pixels.ensures (ap (map (line_of _)) (runs_first _ c.args.text))
