use Rattle.std.proofs.Common.{◌∙◌, subst, refl, ℕ, List}
use Rattle.gui_board.specs.Writing.{WritesBy}
use Rattle.gui_board.proofs.Removals.{played_note}
use Rattle.gui_board.proofs.board.Board.note.Goals as goal

pub returns : goal.returns
returns g c =
    played_note _ _ c.args.refusal refl refl
    (subst (λ (line : List ℕ). WritesBy c.args.self.now.scribe.cut c.write.new.self.cut (g.S.Sink.state c.args.log.now) (g.S.Sink.state c.write.new.log) line) (c.as_slice.ensures.value ∙ c.refusal_text-line.ensures) c.write.ensures.lines)
    refl
