use Rattle.std.proofs.Common.{◌≡◌, ◌∙◌, ap, sym, subst, rules, ℤ, pos, ◌*ℤ◌, ◌-ℤ◌, ◌+ℤ◌, FitsSigned, w32}
use Rattle.std.proofs.lemmas.Int.{ints}
use Rattle.std.specs.Int.{int_div_euclid}
use Rattle.play_defs.specs.Animation.{between}
use Rattle.play_defs.proofs.Shares.{between_ends}
use Rattle.gui_anim.proofs.Sums.{sum_fits, sum_is, difference_is, between_fits}
use Rattle.gui_anim.proofs.value.between.Goals as goal

value : (c : goal.After-share) → c.args.from +ℤ c.share.result ≡ between c.args.from c.args.to c.args.parts
value c =
    let way : FitsSigned w32 (c.args.to -ℤ c.args.from) = search (rules, ints) in
    ap (λ (z : ℤ). c.args.from +ℤ z) (c.share.ensures.value ∙ ap (λ (z : ℤ). int_div_euclid (z *ℤ pos c.args.parts) (pos 1024)) (difference_is c.args.to c.args.from c.ranges.to c.ranges.from way))

fits : (c : goal.After-share) → FitsSigned w32 (c.args.from +ℤ c.share.result)
fits c =
    subst (FitsSigned w32) (sym (value c)) (between_fits c.args.from c.args.to _ c.requires.ends.0 c.requires.ends.1 (between_ends c.args.from c.args.to c.args.parts c.requires.within))

pub overflow_add-result : goal.overflow_add-result
overflow_add-result c =
    let share : FitsSigned w32 c.share.result = search rules in
    sum_fits c.args.from c.share.result c.ranges.from share (fits c)

pub returns : goal.returns
returns c =
    let share : FitsSigned w32 c.share.result = search rules in
    sum_is c.args.from c.share.result c.ranges.from share (fits c) ∙ value c
