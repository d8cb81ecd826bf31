use Rattle.std.proofs.Common.{◌∙◌, sym, subst, ℕ, ◌≤◌}
use Rattle.run_defs.specs.Animating.{animate}
use Rattle.gui_board.specs.Boards.{machine_of, stage}
use Rattle.gui_play.proofs.Animated.{animated_next, animated_end}
use Rattle.gui_board.proofs.Plays.{played_each_none, played_whole}
use Rattle.gui_play.proofs.animating.animate_each.Goals as goal

pub anims-init : goal.anims-init
anims-init c = λ log. played_each_none (stage c.args.board.now log) animate

pub returns : goal.returns
returns c = λ log.
    played_whole _ _ animate (machine_of c.args.board.now).anims c.anims.n (subst (λ (m : ℕ). m ≤ c.anims.n) c.anim_count-n-end.ensures c.anims-test.false) (c.anims.invariant log)

pub returns-in-None : goal.returns-in-None
returns-in-None c = λ log.
    animated_end (stage c.args.board.now log) _ c.anims.n (c.anims.invariant log) (sym c.anim.ensures.value ∙ c.in-None.is)

pub anims-preserved : goal.anims-preserved
anims-preserved c = λ log.
    animated_next (stage c.args.board.now log) _ c.anims.n (c.anims.invariant log) _ _ _ (sym c.anim.ensures.value ∙ c.in-Some.is) (c.animate.ensures log)
