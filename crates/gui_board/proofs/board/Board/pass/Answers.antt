use Rattle.std.proofs.Common.{◌≡◌, ap, refl, ℕ, ◌+◌, min, arith}
use Rattle.run_defs.specs.Ticks.{last_moment, later}
use Rattle.gui_board.specs.Boards.{machine_of, stage}
use Rattle.gui_board.proofs.Boards.{played_with}
use Rattle.gui_board.proofs.Writes.{writes_nothing}
use Rattle.gui_board.proofs.board.Board.pass.Goals as goal

pub returns : goal.returns
returns c = λ log.
    let now = c.args.self.now in
    let sum : c.saturating_add-self.result ≡ min (now.inputs.time + c.args.ms) last_moment = grind (arith, c.saturating_add-self.ensures, c.from.ensures) in
    played_with (stage now log) _ (later c.args.ms) (ap (λ (t : ℕ). record (machine_of now) { time = t }) sum) refl refl (writes_nothing now.scribe.cut log) refl
