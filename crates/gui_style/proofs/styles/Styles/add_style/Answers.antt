use Rattle.std.proofs.Common.{is_some, sym, ap, ◌∙◌}
use Rattle.gui_base.specs.declared.limits.Pool.TheVariants.{Uses}
use Rattle.style_defs.specs.Book.{a_use}
use Rattle.gui_style.specs.Styles.{full_answer}
use Rattle.gui_style.proofs.Answers.{add_taken, add_full}
use Rattle.gui_style.proofs.styles.Styles.add_style.Goals as goal

pub returns-then-is_some-clause-answer : goal.returns-then-is_some-clause-answer
returns-then-is_some-clause-answer c =
    sym (add_taken c.args.self.now c.args.h.0 (a_use c.args.id c.args.selector) (sym c.if-not-has_style.ensures) (ap is_some (sym c.use_place.ensures) ∙ sym c.if-is_some.ensures))

pub returns-clause-answer : goal.returns-clause-answer
returns-clause-answer c =
    c.push.ensures.answer
    ∙ ap (λ s. full_answer s.spare_uses Uses) c.self.view_is
    ∙ sym (add_full c.args.self.now c.args.h.0 (a_use c.args.id c.args.selector) (sym c.if-not-has_style.ensures) (ap is_some (sym c.use_place.ensures) ∙ sym c.if-is_some.ensures))
