use Rattle.std.proofs.Common.{◌≡◌, ◌≤◌, sym, subst, arith, rules}
use Rattle.play_defs.specs.Animation.{value_at}
use Rattle.play_defs.specs.Laws.{LiesBetween}
use Rattle.play_defs.proofs.Values.{values_between}
use Rattle.gui_anim.proofs.value.value_of.Goals as goal

pub returns-else-elapsed-delay-clause-between : goal.returns-else-elapsed-delay-clause-between
returns-else-elapsed-delay-clause-between c =
    let moves : 1 ≤ c.args.spec.now.time = grind (arith, c.requires.time) in
    let value : c.value_after.result ≡ value_at c.args.spec.now c.args.elapsed = search rules in
    subst (LiesBetween c.args.spec.now.start c.args.spec.now.end) (sym value) (values_between c.args.spec.now c.args.elapsed moves)
