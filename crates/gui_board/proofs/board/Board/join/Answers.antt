use Rattle.std.proofs.Common.{ap}
use Rattle.gui_event.specs.Groups.{FocusGroups}
use Rattle.gui_board.specs.Boards.{stage}
use Rattle.gui_board.proofs.Regrouped.{has_joined, played_join}
use Rattle.gui_board.proofs.board.Board.join.Goals as goal

pub returns : goal.returns
returns g c =
    let old = stage c.args.self.now (g.S.Sink.state c.args.log.now) in
    let joined = has_joined _ _ _ _ _ c.requires.there c.requires.free c.join.ensures.answer c.join.ensures.ok in
    played_join _ _ _ _ _ _ (ap (λ (groups : FocusGroups). record old { machine = record old.machine { groups = groups.all } }) joined) c.focused-focused.ensures c.first_focus.ensures
