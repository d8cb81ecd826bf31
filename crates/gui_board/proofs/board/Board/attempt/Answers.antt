use Rattle.gui_change.specs.Canvas.{scene_in}
use Rattle.scene_defs.specs.Change.{answer_of}
use Rattle.gui_board.specs.Boards.{stage}
use Rattle.gui_board.proofs.Removals.{answer_none, answer_some, attempt_made, attempt_noted}
use Rattle.gui_board.proofs.board.Board.attempt.Goals as goal

pub returns-in-Err : goal.returns-in-Err
returns-in-Err g c =
    let answer = answer_some (answer_of (scene_in c.args.self.now.canvas) c.args.change.now) c.make.result c.in-Err.refusal c.make.ensures.answer c.in-Err.is in
    attempt_noted (stage c.args.self.now (g.S.Sink.state c.args.log.now)) (stage c.make.new.self (g.S.Sink.state c.args.log.now)) _ c.args.change.now c.in-Err.refusal answer
    (c.in-Err.ensures.refused (g.S.Sink.state c.args.log.now)) c.note.ensures

pub returns-in_default : goal.returns-in_default
returns-in_default g c =
    let answer = answer_none (answer_of (scene_in c.args.self.now.canvas) c.args.change.now) c.make.result c.in_default.field-0 c.make.ensures.answer c.in_default.is in
    attempt_made (stage c.args.self.now (g.S.Sink.state c.args.log.now)) _ c.args.change.now answer (c.in_default.ensures.done (g.S.Sink.state c.args.log.now))
