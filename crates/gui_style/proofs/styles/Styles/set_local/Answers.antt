use Rattle.std.proofs.Common.{◌<◌, sym, ap, ◌∙◌, rules}
use Rattle.std.proofs.lemmas.Int.{to_z-of_z}
use Rattle.std.proofs.lemmas.Result.{on_ok_weaker}
use Rattle.gui_base.specs.declared.limits.Pool.TheVariants.{Entries}
use Rattle.gui_pool.specs.Lists.{pushed, replaced}
use Rattle.gui_style.specs.Styles.{full_answer}
use Rattle.gui_style.specs.Kept.{styles_of}
use Rattle.gui_style.proofs.Answers.{set_there, set_none}
use Rattle.gui_style.proofs.Views.{local_there, local_placed, local_replaced, local_pushed}
use Rattle.gui_style.proofs.styles.Styles.set_local.Goals as goal

pub replace-requires-clause-there : goal.replace-requires-clause-there
replace-requires-clause-there c =
    let s = c.self.inside in let within : c.args.h.0 < 65536 = search rules in
    local_there s.made s.entries s.uses c.self.invariant c.args.h.0 within c.args.self.now c.self.view_is c.args.selector c.args.prop c.in-Some.place c.in-Some.ensures

pub replace-requires-clause-same : goal.replace-requires-clause-same
replace-requires-clause-same c =
    let s = c.self.inside in let within : c.args.h.0 < 65536 = search rules in
    rw c.entry_of-entry.ensures (local_placed s.made s.entries s.uses c.self.invariant c.args.h.0 within c.args.self.now c.self.view_is c.args.selector c.args.prop c.in-Some.place c.in-Some.ensures)

pub returns-in-Some-clause-answer : goal.returns-in-Some-clause-answer
returns-in-Some-clause-answer c =
    sym (set_there c.args.self.now c.args.h.0 c.args.selector c.args.prop c.in-Some.place c.in-Some.ensures)

pub returns-in-Some-clause-ok : goal.returns-in-Some-clause-ok
returns-in-Some-clause-ok c =
    let s = c.self.inside in let h = c.args.h.0 in let within : c.args.h.0 < 65536 = search rules in
    let fits = c.ranges.value in let made = simp to_z-of_z at c.entry_of-entry.ensures in
    ap (λ e. styles_of s.made e s.uses) (c.replace.ensures ∙ ap (replaced s.entries h c.in-Some.place) made)
    ∙ local_replaced s.made s.entries s.uses c.self.invariant h within c.args.self.now c.self.view_is c.args.selector c.args.prop c.in-Some.place c.in-Some.ensures c.args.value

pub returns-in-None-clause-answer : goal.returns-in-None-clause-answer
returns-in-None-clause-answer c =
    c.push.ensures.answer
    ∙ ap (λ s. full_answer s.spare_entries Entries) c.self.view_is
    ∙ sym (set_none c.args.self.now c.args.h.0 c.args.selector c.args.prop c.in-None.ensures)

pub returns-in-None-clause-ok : goal.returns-in-None-clause-ok
returns-in-None-clause-ok c =
    let s = c.self.inside in let h = c.args.h.0 in let within : c.args.h.0 < 65536 = search rules in
    let fits = c.ranges.value in let made = simp to_z-of_z at c.entry_of-entry.ensures in
    let after = local_pushed s.made s.entries s.uses c.self.invariant h within c.args.self.now c.self.view_is c.args.selector c.args.prop c.in-None.ensures c.args.value in
    on_ok_weaker c.push.result (λ e. ap (λ e. styles_of s.made e s.uses) (e ∙ ap (pushed s.entries h) made) ∙ after) c.push.ensures.ok
