use Rattle.std.proofs.Common.{◌∙◌, sym, ap, refl, Bool}
use Rattle.gui_change.specs.Canvas.{scene_in, removed_in}
use Rattle.run_defs.specs.Making.{is_same}
use Rattle.scene_defs.specs.Change.{answer_of}
use Rattle.scene_defs.specs.declared.Change.TheVariants as change
use Rattle.gui_board.specs.Boards.{stage}
use Rattle.gui_board.proofs.Boards.{put_made, put_same, differ, agree}
use Rattle.gui_board.proofs.Removals.{removed_stay}
use Rattle.gui_board.proofs.board.Board.put_state.Goals as goal

pub returns-then-is_in_state-on-clause-done : goal.returns-then-is_in_state-on-clause-done
returns-then-is_in_state-on-clause-done c = λ log.
    put_made (stage c.args.self.now log) (stage c.change.new.self log) c.args.state c.args.on c.args.h
    (sym (ap (λ (is : Bool). is_same is c.args.on) c.is_in_state.ensures) ∙ differ c.is_in_state.result c.args.on c.if-is_in_state-on.true)
    (c.change.ensures.done log)

pub returns-then-is_in_state-on-clause-gone : goal.returns-then-is_in_state-on-clause-gone
returns-then-is_in_state-on-clause-gone c =
    let scene = scene_in c.args.self.now.canvas in
    let asked = change.State c.args.h c.args.state c.args.on in
    c.change.ensures.gone ∙ removed_stay (answer_of scene asked) (removed_in c.args.self.now.canvas) scene asked refl

pub returns-else-is_in_state-on-clause-done : goal.returns-else-is_in_state-on-clause-done
returns-else-is_in_state-on-clause-done c =
    put_same c.args.self.now c.args.state c.args.on c.args.h
    (sym (ap (λ (is : Bool). is_same is c.args.on) c.is_in_state.ensures) ∙ agree c.is_in_state.result c.args.on c.if-is_in_state-on.false)
