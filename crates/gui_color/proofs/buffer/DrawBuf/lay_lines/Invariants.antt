use Rattle.std.proofs.Common.{◌≡◌}
use Rattle.gui_base.specs.Area.{has}
use Rattle.gui_base.specs.Corners.{rect_of}
use Rattle.gui_color.specs.Buffer.{IsMixed}
use Rattle.gui_color.proofs.Filling.{first_lines}
use Rattle.gui_color.proofs.buffer.DrawBuf.lay_lines.Given as goal

abbrev pub invariant-loop-line : goal.invariant-loop-line
invariant-loop-line g l = record {
  area : l.self.area ≡ l.fn.self.area;
  limit : l.self.limit ≡ l.fn.self.limit;
  mixed : IsMixed l.fn.self l.self (has (first_lines (rect_of l.fn.part) l.line)) l.fg l.opa;
}
