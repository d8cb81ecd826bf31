use Rattle.std.proofs.Common.{◌∙◌, sym}
use Rattle.gui_board.specs.Boards.{stage}
use Rattle.gui_board.proofs.Groups.{left_group, left_none}
use Rattle.gui_board.proofs.board.Board.leave_group.Goals as goal

pub returns-in-Some-clause-done : goal.returns-in-Some-clause-done
returns-in-Some-clause-done c = λ log.
    left_group _ _ c.in-Some.id c.args.h c.heir-heir.result c.in-Some.ensures c.heir-heir.ensures (c.pass_on.ensures.done log)

pub returns-in_default-clause-done : goal.returns-in_default-clause-done
returns-in_default-clause-done c = λ log.
    left_none (stage c.args.self.now log) c.args.h (sym c.in_default.is ∙ c.group_of.ensures)
