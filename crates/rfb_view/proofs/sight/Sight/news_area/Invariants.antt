use Rattle.std.proofs.Common.{◌≡◌, ◌+◌}
use Rattle.gui_base.specs.Corners.{rect_of}
use Rattle.rfb_view.proofs.Lines.{news_to, block}
use Rattle.rfb_view.proofs.sight.Sight.news_area.Given as goal

-- the news of the lines so far
abbrev pub invariant-loop-line : goal.invariant-loop-line
invariant-loop-line l = rect_of l.news ≡ news_to l.width l.self l.colors (block l.block.left l.block.top l.block.columns l.block.lines) (l.block.top + l.line)
