use Rattle.std.proofs.Common.{◌∙◌, sym}
use Rattle.gui_board.proofs.board.Board.unfocus_focused.Goals as goal

pub returns-then-has_focus : goal.returns-then-has_focus
returns-then-has_focus c = λ log. rw (sym c.has_focus.ensures ∙ c.if-has_focus.true) (c.unfocus.ensures log)
