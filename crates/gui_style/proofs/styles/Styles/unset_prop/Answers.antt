use Rattle.std.proofs.Common.{◌<◌, sym, ap, ◌∙◌, length, subst}
use Rattle.gui_pool.specs.Lists.{list_of, removed}
use Rattle.gui_style.specs.Kept.{styles_of}
use Rattle.gui_style.proofs.Answers.{unset_prop_there, unset_prop_none}
use Rattle.gui_style.proofs.Views.{setting_there, prop_removed}
use Rattle.gui_style.proofs.styles.Styles.unset_prop.Goals as goal

pub remove-requires-clause-there : goal.remove-requires-clause-there
remove-requires-clause-there c =
    let s = c.self.inside in
    let there = setting_there s.made s.entries s.uses c.self.invariant c.args.id c.ranges.id.fits c.args.self.now c.self.view_is c.args.prop c.in-Some.place c.in-Some.ensures in
    subst (λ o. c.in-Some.place < length (list_of s.entries o)) (sym c.style_owner.ensures.value) there

pub returns-in-Some-clause-answer : goal.returns-in-Some-clause-answer
returns-in-Some-clause-answer c =
    sym (unset_prop_there c.args.self.now c.args.id c.args.prop c.in-Some.place c.in-Some.ensures)

pub returns-in-Some-clause-ok : goal.returns-in-Some-clause-ok
returns-in-Some-clause-ok c =
    let s = c.self.inside in
    ap (λ e. styles_of s.made e s.uses) (c.remove.ensures ∙ ap (λ o. removed s.entries o c.in-Some.place) c.style_owner.ensures.value)
    ∙ prop_removed s.made s.entries s.uses c.self.invariant c.args.id c.ranges.id.fits c.args.self.now c.self.view_is c.args.prop c.in-Some.place c.in-Some.ensures

pub returns-in-None-clause-answer : goal.returns-in-None-clause-answer
returns-in-None-clause-answer c =
    sym (unset_prop_none c.args.self.now c.args.id c.args.prop c.in-None.ensures)
