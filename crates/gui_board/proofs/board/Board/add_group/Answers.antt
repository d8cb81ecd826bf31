use Rattle.std.proofs.Common.{ap, refl}
use Rattle.gui_event.specs.Groups.{FocusGroups}
use Rattle.gui_board.specs.Boards.{machine_of, stage}
use Rattle.play_defs.specs.Focus.{with_group}
use Rattle.run_defs.specs.Machine.{Machine}
use Rattle.gui_board.proofs.Answering.{group_left}
use Rattle.gui_board.proofs.Boards.{played_with}
use Rattle.gui_board.proofs.Writes.{writes_nothing}
use Rattle.gui_board.proofs.board.Board.add_group.Goals as goal

pub returns : goal.returns
returns c = λ log.
    let board = c.args.self.now in
    let next = group_left board.groups c.group.new.self c.args.id c.group.result _ _ board.sized.groups_fit c.requires.new c.requires.room c.group.ensures.answer c.group.ensures.ok in
    played_with (stage board log) _ (λ (machine : Machine). record machine { groups = with_group machine.groups c.args.id }) (ap (λ (s : FocusGroups). record (machine_of board) { groups = s.all }) next) refl refl (writes_nothing board.scribe.cut log) refl
