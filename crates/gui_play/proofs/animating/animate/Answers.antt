use Rattle.std.proofs.Common.{◌∙◌, ap, subst, ℕ, ◌-◌}
use Rattle.play_defs.specs.Animation.{value_at}
use Rattle.play_defs.specs.declared.AnimValue.{AnimValue}
use Rattle.run_defs.specs.Animating.{animate, put_anim}
use Rattle.gui_board.specs.Boards.{machine_of, stage}
use Rattle.gui_board.specs.Stages.{Played}
use Rattle.gui_play.proofs.animating.animate.Goals as goal

pub returns : goal.returns
unfolding animate
returns c = λ log.
    subst (λ (value : AnimValue). Played (stage c.args.board.now log) (stage c.put_anim.new.board log) (put_anim c.args.spec.now value (machine_of c.args.board.now)))
    (c.value_of-value.ensures.value ∙ (ap (λ (elapsed : ℕ). value_at c.args.spec.now elapsed) c.saturating_sub.ensures ∙ ap (λ (time : ℕ). value_at c.args.spec.now (time - c.args.started)) c.time.ensures))
    (c.put_anim.ensures log)
