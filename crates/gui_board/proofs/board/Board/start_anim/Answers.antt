use Rattle.std.proofs.Common.{ap, refl}
use Rattle.gui_anim.specs.Anims.{Anims, start_answer}
use Rattle.run_defs.specs.Step.{anim_started}
use Rattle.gui_board.specs.Boards.{machine_of, stage}
use Rattle.gui_board.proofs.Refused.{may_start, may_be_started}
use Rattle.gui_board.proofs.Answering.{ok_leaves}
use Rattle.gui_board.proofs.Boards.{played_with}
use Rattle.gui_board.proofs.Writes.{writes_nothing}
use Rattle.gui_board.proofs.board.Board.start_anim.Goals as goal

pub start-requires : goal.start-requires
start-requires c = may_start (machine_of c.args.self.now) c.args.spec c.requires

pub returns : goal.returns
returns c = λ log.
    let board = c.args.self.now in
    let spec = c.args.spec in
    let next = ok_leaves c.start.result (start_answer board.anims spec.h.0 spec.var) c.start.ensures.answer (may_be_started (machine_of board) board.anims spec refl board.sized.anims_fit c.requires) c.start.ensures.ok in
    played_with (stage board log) _ (anim_started spec) (ap (λ (s : Anims). record (machine_of board) { anims = s.running }) next) refl refl (writes_nothing board.scribe.cut log) refl
