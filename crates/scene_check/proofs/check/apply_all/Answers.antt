use Rattle.std.proofs.Common.{◌∙◌, ◌+◌, ap, drop}
use Rattle.gui_store.specs.Views.{scene_of}
use Rattle.scene_defs.specs.Scene.{Scene}
use Rattle.scene_check.specs.Checking.{changed_by_all, refusal_of_all}
use Rattle.scene_check.proofs.Steps.{done_at, refused_at}
use Rattle.scene_check.proofs.check.apply_all.Goals as goal

pub loop-change-preserved : goal.loop-change-preserved
loop-change-preserved c =
    let rest = drop (c.loop-change.change-index + 1) c.args.lines.now in
    let done = done_at (scene_of c.loop-change.store) c.args.lines.now c.loop-change.change-index c.change-item.result c.loop-change-test.true c.change-item.is c.in_ok-apply.ensures.answer in
    (ap (λ (s : Scene). refusal_of_all s rest) c.apply.ensures.after ∙ (done.0 ∙ c.loop-change.invariant.0), ap (λ (s : Scene). changed_by_all s rest) c.apply.ensures.after ∙ (done.1 ∙ c.loop-change.invariant.1))

pub returns-in_err-apply-clause-after : goal.returns-in_err-apply-clause-after
returns-in_err-apply-clause-after c =
    c.apply.ensures.after ∙ (refused_at (scene_of c.loop-change.store) c.args.lines.now c.loop-change.change-index c.change-item.result c.loop-change-test.true c.change-item.is _ c.in_err-apply.ensures.answer ∙ c.loop-change.invariant.1)
