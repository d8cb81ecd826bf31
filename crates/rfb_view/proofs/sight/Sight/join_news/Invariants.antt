use Rattle.std.proofs.Common.{◌≡◌, ◌+◌, ◌*◌}
use Rattle.gui_base.specs.Corners.{rect_of}
use Rattle.rfb_view.specs.Sights.{with_untold}
use Rattle.rfb_view.proofs.sight.Sight.join_news.Given as goal

-- the pixels so far that are news
abbrev pub invariant-loop-column : goal.invariant-loop-column
invariant-loop-column l =
    rect_of l.news ≡ with_untold l.width l.self l.colors (l.line * l.width + l.left) l.column (rect_of l.fn.news)
