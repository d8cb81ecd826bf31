use Rattle.gui_change.specs.Canvas.{scene_in}
use Rattle.scene_defs.specs.Change.{answer_of}
use Rattle.gui_board.proofs.Removals.{answer_none, answer_some, on_err_any, refused_make, made_plain, made_delete, not_deleted}
use Rattle.gui_board.proofs.board.Board.make.Goals as goal

pub returns-in_err-change-clause-refused : goal.returns-in_err-change-clause-refused
returns-in_err-change-clause-refused c =
    let now = c.args.self.now in
    let answer = answer_some (answer_of (scene_in now.canvas) c.args.change.now) c.change.result _ c.change.ensures.answer c.in_err-change.was in
    on_err_any c.from_residual.result (refused_make now c.change.new.self c.args.change.now _ answer c.change.ensures.done)

pub returns-in_err-change-clause-unmarked : goal.returns-in_err-change-clause-unmarked
returns-in_err-change-clause-unmarked c = on_err_any c.from_residual.result c.in_err-change.ensures.refused

pub returns-in-Delete-clause-done : goal.returns-in-Delete-clause-done
returns-in-Delete-clause-done c =
    let now = c.args.self.now in
    let answer = answer_none (answer_of (scene_in now.canvas) c.args.change.now) c.change.result c.in_ok-change.field-0 c.change.ensures.answer c.in_ok-change.was in
    let valid = rw c.store.ensures.scene at c.tree-tree.ensures.valid in
    made_delete now c.change.new.self c.forget_all.new.self c.args.change.now c.in-Delete.field-0 c.in-Delete.is valid answer c.change.ensures.done c.change.ensures.gone c.forget_all.ensures

pub returns-in_default : goal.returns-in_default
returns-in_default c = record {
  answer = c.in_ok-change.ensures.answer;
  done = made_plain c.args.self.now c.change.new.self c.args.change.now (not_deleted c.args.change.now c.in_default.not-Delete) c.change.ensures.done;
  refused = tt;
  unmarked = tt;
}
