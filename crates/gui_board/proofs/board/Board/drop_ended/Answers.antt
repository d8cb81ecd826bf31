use Rattle.std.proofs.Common.{ap, refl}
use Rattle.gui_anim.specs.Anims.{Anims}
use Rattle.run_defs.specs.Animating.{without_ended}
use Rattle.gui_board.specs.Boards.{machine_of, stage}
use Rattle.gui_board.proofs.Boards.{played_with}
use Rattle.gui_board.proofs.Writes.{writes_nothing}
use Rattle.gui_board.proofs.board.Board.drop_ended.Goals as goal

pub returns : goal.returns
returns c = λ log.
    let now = c.args.self.now in
    played_with (stage now log) _ without_ended (ap (λ (s : Anims). record (machine_of now) { anims = s.running }) c.drop_ended.ensures) refl refl (writes_nothing now.scribe.cut log) refl
