use Rattle.std.proofs.Common.{sym, ap, ◌∙◌}
use Rattle.style_defs.specs.Book.{a_use}
use Rattle.gui_style.specs.Kept.{styles_of}
use Rattle.gui_style.proofs.Answers.{remove_there, remove_none}
use Rattle.gui_style.proofs.Views.{use_there, use_removed}
use Rattle.gui_style.proofs.styles.Styles.remove_style.Goals as goal

pub remove-requires-clause-there : goal.remove-requires-clause-there
remove-requires-clause-there c =
    let s = c.self.inside in
    use_there s.made s.entries s.uses c.self.invariant c.args.h.0 (a_use c.args.id c.args.selector) c.args.self.now c.self.view_is c.in-Some.place c.in-Some.ensures

pub returns-in-Some-clause-answer : goal.returns-in-Some-clause-answer
returns-in-Some-clause-answer c =
    sym (remove_there c.args.self.now c.args.h.0 (a_use c.args.id c.args.selector) c.in-Some.place c.in-Some.ensures)

pub returns-in-Some-clause-ok : goal.returns-in-Some-clause-ok
returns-in-Some-clause-ok c =
    let s = c.self.inside in
    ap (styles_of s.made s.entries) c.remove.ensures
    ∙ use_removed s.made s.entries s.uses c.self.invariant c.args.h.0 (a_use c.args.id c.args.selector) c.args.self.now c.self.view_is c.in-Some.place c.in-Some.ensures

pub returns-in-None-clause-answer : goal.returns-in-None-clause-answer
returns-in-None-clause-answer c =
    sym (remove_none c.args.self.now c.args.h.0 (a_use c.args.id c.args.selector) c.in-None.ensures)
