use Rattle.std.proofs.Common.{◌≡◌, ◌≢◌, ◌∙◌, sym, ap, get_or, FitsSigned, w64, of_z, rules, arith}
use Rattle.std.specs.Prelude.{Some, pos, ◌-ℤ◌}
use Rattle.std.proofs.lemmas.Int.{to_z-of_z}
use Rattle.scene_script.proofs.NumberLemmas.{negative_none, negative_zero, negative, negative_fits, plain}
use Rattle.scene_script.proofs.numbers.capped_number.Goals as goal

pub returns-in_err-value : goal.returns-in_err-value
returns-in_err-value c =
    c.from_residual.ensures ∙ sym (negative_none c.args.word.now (omega arith) (omega arith) (sym c.capped_natural.ensures ∙ c.in_err-value.was))

pub returns-then-value-eq0 : goal.returns-then-value-eq0
returns-then-value-eq0 c =
    let n = c.in_ok-value.value in
    let fits : FitsSigned w64 n = search rules in
    let zero : n ≡ pos 0 = rw c.if-value-eq0.true at (sym (to_z-of_z w64 n fits)) in
    let is = sym c.capped_natural.ensures ∙ (c.in_ok-value.was ∙ ap Some zero) in
    sym (negative_zero c.args.word.now (omega arith) (omega arith) is)

pub overflow_sub-result : goal.overflow_sub-result
overflow_sub-result c =
    let n = c.in_ok-value.value in
    let fits : FitsSigned w64 n = search rules in
    rw (to_z-of_z w64 n fits) (negative_fits c.args.word.now n (sym c.capped_natural.ensures ∙ c.in_ok-value.was))

pub returns-else-value-eq0 : goal.returns-else-value-eq0
returns-else-value-eq0 c =
    let n = c.in_ok-value.value in
    let fits : FitsSigned w64 n = search rules in
    let is = sym c.capped_natural.ensures ∙ c.in_ok-value.was in
    let other : n ≢ pos 0 = λ zero. c.if-value-eq0.false (ap (of_z w64) zero) in
    rw (to_z-of_z w64 n fits, to_z-of_z w64 (pos 0 -ℤ n) (negative_fits c.args.word.now n is))
    (sym (negative c.args.word.now n (omega arith) (omega arith) is other))

pub returns : goal.returns
returns c =
    let first : get_or c.args.word.now 0 0 ≢ 45 = grind arith in
    c.capped_natural-2.ensures ∙ plain c.args.word.now first
