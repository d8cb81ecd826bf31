use Rattle.std.proofs.Common.{◌∙◌, ap, false}
use Rattle.gui_event.specs.Groups.{FocusGroups, with_editing}
use Rattle.run_defs.specs.Focusing.{focus_taken}
use Rattle.gui_board.specs.Boards.{stage}
use Rattle.gui_board.proofs.Regrouped.{played_groups}
use Rattle.gui_board.proofs.board.Board.take_focus.Goals as goal

pub returns : goal.returns
returns c = λ log.
    let old = stage c.args.self.now log in
    played_groups old _ (focus_taken c.args.id c.args.h)
    (ap (λ (groups : FocusGroups). record old { machine = record old.machine { groups = groups.all } }) (c.set_editing.ensures ∙ ap (λ (groups : FocusGroups). with_editing groups c.args.id false) c.set_focused.ensures))
