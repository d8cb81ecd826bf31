use Rattle.std.proofs.Common.{◌<◌, sym, ap, ◌∙◌, rules}
use Rattle.gui_style.specs.Kept.{styles_of}
use Rattle.gui_style.proofs.Answers.{unset_there, unset_none}
use Rattle.gui_style.proofs.Views.{local_there, local_removed}
use Rattle.gui_style.proofs.styles.Styles.unset_local.Goals as goal

pub remove-requires-clause-there : goal.remove-requires-clause-there
remove-requires-clause-there c =
    let s = c.self.inside in let within : c.args.h.0 < 65536 = search rules in
    local_there s.made s.entries s.uses c.self.invariant c.args.h.0 within c.args.self.now c.self.view_is c.args.selector c.args.prop c.in-Some.place c.in-Some.ensures

pub returns-in-Some-clause-answer : goal.returns-in-Some-clause-answer
returns-in-Some-clause-answer c =
    sym (unset_there c.args.self.now c.args.h.0 c.args.selector c.args.prop c.in-Some.place c.in-Some.ensures)

pub returns-in-Some-clause-ok : goal.returns-in-Some-clause-ok
returns-in-Some-clause-ok c =
    let s = c.self.inside in let h = c.args.h.0 in let within : c.args.h.0 < 65536 = search rules in
    ap (λ e. styles_of s.made e s.uses) c.remove.ensures
    ∙ local_removed s.made s.entries s.uses c.self.invariant h within c.args.self.now c.self.view_is c.args.selector c.args.prop c.in-Some.place c.in-Some.ensures

pub returns-in-None-clause-answer : goal.returns-in-None-clause-answer
returns-in-None-clause-answer c =
    sym (unset_none c.args.self.now c.args.h.0 c.args.selector c.args.prop c.in-None.ensures)
