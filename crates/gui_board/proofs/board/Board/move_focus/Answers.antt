use Rattle.std.proofs.Common.{subst, Option}
use Rattle.gui_base.specs.declared.Handle.{Handle}
use Rattle.run_defs.specs.Focusing.{hand_over, move_focus, move_from}
use Rattle.gui_board.specs.Boards.{Plays}
use Rattle.gui_board.proofs.Plays.{played_then}
use Rattle.gui_board.proofs.board.Board.move_focus.Goals as goal

pub returns : goal.returns
unfolding move_focus move_from hand_over
returns g c =
    let log = g.S.Sink.state c.args.log.now in
    subst (λ (old : Option Handle). Plays c.args.self.now c.send_there.new.self log (g.S.Sink.state c.send_there.new.log) (move_from old c.args.id c.args.by_key c.args.h)) c.focused-old.ensures
    (played_then _ _ _ _ _ (played_then _ _ _ _ _ (played_then _ _ _ _ _ (played_then _ _ _ _ _ (c.take_focus.ensures log) (c.unfocus_old.ensures log)) (c.refocus.ensures log)) c.tell_old.ensures) c.send_there.ensures)
