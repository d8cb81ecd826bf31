use Rattle.gui_draw.proofs.Common.{◌≡◌, ◌+◌, ℕ, ap, subst, arith, sum_below, one_if}
use Rattle.text_defs.specs.Bits.{bit}
use Rattle.text_defs.specs.BuiltIn.{column_of}
use Rattle.gui_draw.proofs.Counts.{sum_more, sum_start}
use Rattle.gui_draw.proofs.stamps.tick_dots.Goals as goal

pub loop-x-init : goal.loop-x-init
loop-x-init g c = omega (arith, sum_start (λ k. one_if (bit (column_of c.args.c k) c.args.y)))

pub loop-x-preserved : goal.loop-x-preserved
loop-x-preserved g c =
    omega (arith, sum_more c.loop-x.x (λ k. one_if (bit (column_of c.args.c k) c.args.y)), c.tick_if.ensures, c.loop-x.invariant, ap one_if c.has_dot.ensures)

pub returns : goal.returns
returns g c =
    let all : c.loop-x.x ≡ 5 = omega arith in
    subst (λ (n : ℕ). c.loop-x.steps ≡ c.args.steps.now + sum_below n (λ k. one_if (bit (column_of c.args.c k) c.args.y))) all c.loop-x.invariant
