use Rattle.std.proofs.Common.{◌∙◌, refl, arith}
use Rattle.gui_change.specs.Canvas.{removed_in}
use Rattle.gui_board.specs.Boards.{stage}
use Rattle.run_defs.specs.Making.{forget}
use Rattle.gui_board.proofs.Plays.{played_each_none}
use Rattle.gui_board.proofs.Removals.{list_length, forgot_more, forgot_all}
use Rattle.gui_board.proofs.board.Board.forget_all.Goals as goal

pub gone-init : goal.gone-init
gone-init c = record {
  done = λ log. played_each_none (stage c.args.self.now log) forget;
  same = refl;
  count = list_length _ _ (c.last_removed-count.ensures ∙ (c.tree.ensures.removed ∙ c.store.ensures.removed));
}

pub gone-preserved : goal.gone-preserved
gone-preserved c =
    let gone = removed_in c.args.self.now.canvas in record {
      done = λ log. forgot_more (stage c.args.self.now log) _ _ gone c.last_removed.result.now c.gone.i _
          (c.last_removed.ensures ∙ (c.tree-in-gone.ensures.removed ∙ (c.store-in-gone.ensures.removed ∙ c.gone.invariant.same)))
          (omega (arith, c.gone-test.true, c.gone.invariant.count)) (c.gone.invariant.done log) (c.forget.ensures.done log);
      same = c.forget.ensures.gone ∙ c.gone.invariant.same;
      count = c.gone.invariant.count;
    }

pub returns : goal.returns
returns c = λ log.
    forgot_all (stage c.args.self.now log) _ (removed_in c.args.self.now.canvas) c.gone.i (omega (arith, c.gone-test.false, c.gone.invariant.count)) (c.gone.invariant.done log)
