use Rattle.std.proofs.Common.{ap, refl}
use Rattle.gui_anim.specs.Anims.{Anims, stop_answer}
use Rattle.run_defs.specs.Step.{anim_stopped}
use Rattle.gui_board.specs.Boards.{machine_of, stage}
use Rattle.gui_board.proofs.Refused.{may_be_stopped}
use Rattle.gui_board.proofs.Answering.{ok_leaves}
use Rattle.gui_board.proofs.Boards.{played_with}
use Rattle.gui_board.proofs.Writes.{writes_nothing}
use Rattle.gui_board.proofs.board.Board.stop_anim.Goals as goal

pub returns : goal.returns
returns c = λ log.
    let board = c.args.self.now in
    let moved = may_be_stopped (machine_of board) c.args.h c.args.var c.requires in
    let next = ok_leaves c.stop.result (stop_answer board.anims c.args.h.0 c.args.var) c.stop.ensures.answer (rw moved refl) c.stop.ensures.ok in
    played_with (stage board log) _ (anim_stopped c.args.h c.args.var) (ap (λ (s : Anims). record (machine_of board) { anims = s.running }) next) refl refl (writes_nothing board.scribe.cut log) refl
