use Rattle.std.proofs.Common.{ap}
use Rattle.play_defs.specs.Focus.{with_editing}
use Rattle.gui_event.specs.Groups.{FocusGroups}
use Rattle.gui_board.specs.Boards.{stage}
use Rattle.gui_board.proofs.Regrouped.{played_groups}
use Rattle.gui_board.proofs.board.Board.set_editing.Goals as goal

pub returns : goal.returns
returns c = λ log.
    let old = stage c.args.self.now log in
    played_groups old _ (λ groups. with_editing groups c.args.id c.args.on)
    (ap (λ (groups : FocusGroups). record old { machine = record old.machine { groups = groups.all } }) c.set_editing.ensures)
