use Rattle.std.proofs.Common.{◌≡◌, ◌∙◌, sym, ap, refl, true, false, arith}
use Rattle.std.proofs.lemmas.Bool.Decides.{nat_tests}
use Rattle.std.specs.Str.{is_utf8}
use Rattle.scene_defs.specs.Quoted.{text_in_quotes, if_utf8}
use Rattle.scene_defs.proofs.Unescaping.{text_in_quotes-short, is_ok-utf8}
use Rattle.scene_defs.proofs.texts.Text.quoted.Goals as goal

pub returns-then-inside-gt-MOST_QUOTED : goal.returns-then-inside-gt-MOST_QUOTED
unfolding text_in_quotes
returns-then-inside-gt-MOST_QUOTED c = grind (arith, nat_tests)

pub returns-in_err-text : goal.returns-in_err-text
returns-in_err-text c =
    let short = text_in_quotes-short c.args.inside.now (omega arith) in
    rw c.from_residual.ensures (ap if_utf8 c.in_err-text.ensures ∙ sym short)

pub returns-then-is_err : goal.returns-then-is_err
returns-then-is_err c =
    let short = text_in_quotes-short c.args.inside.now (omega arith) in
    let utf8 = is_ok-utf8 c.in_ok-text.text.now _ _ c.from_utf8.result c.from_utf8.ensures.cases in
    let isnt : is_utf8 c.in_ok-text.text.now ≡ false = sym utf8 ∙ c.if-is_err.ensures.negation in
    let none = ap if_utf8 c.in_ok-text.ensures ∙ sym short in
    rw isnt at none

pub invariant_of-result : goal.invariant_of-result
invariant_of-result c =
    let short = text_in_quotes-short c.args.inside.now (omega arith) in
    let utf8 = is_ok-utf8 c.in_ok-text.text.now _ _ c.from_utf8.result c.from_utf8.ensures.cases in
    let is : is_utf8 c.in_ok-text.text.now ≡ true = sym utf8 ∙ c.if-is_err.ensures.negation in
    let some = rw is at (ap if_utf8 c.in_ok-text.ensures) ∙ sym short in
    rw (← some) (refl, (omega arith, is))

pub returns : goal.returns
returns c =
    let short = text_in_quotes-short c.args.inside.now (omega arith) in
    let utf8 = is_ok-utf8 c.in_ok-text.text.now _ _ c.from_utf8.result c.from_utf8.ensures.cases in
    let is : is_utf8 c.in_ok-text.text.now ≡ true = sym utf8 ∙ c.if-is_err.ensures.negation in
    let some = rw is at (ap if_utf8 c.in_ok-text.ensures) ∙ sym short in
    rw (← some) refl
