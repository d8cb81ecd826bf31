use Rattle.std.proofs.Common.{◌+◌, ◌<◌, sym, ap, ◌∙◌, length, subst}
use Rattle.std.proofs.lemmas.Int.{to_z-of_z}
use Rattle.std.proofs.lemmas.Result.{on_ok_weaker}
use Rattle.gui_base.specs.declared.limits.Pool.TheVariants.{Entries}
use Rattle.gui_pool.specs.Lists.{list_of, pushed, replaced}
use Rattle.gui_base.specs.declared.words.Part.TheVariants.{Main}
use Rattle.gui_base.specs.declared.words.Selector.{Selector}
use Rattle.style_defs.specs.Cascade.{has_style}
use Rattle.gui_style.specs.Styles.{full_answer}
use Rattle.gui_style.specs.Kept.{first_style, styles_of, AreStyles}
use Rattle.gui_style.proofs.Answers.{prop_there, prop_none}
use Rattle.gui_style.proofs.Changes.{either}
use Rattle.gui_style.proofs.Views.{setting_there, setting_placed, prop_replaced, prop_pushed, more_kept}
use Rattle.gui_style.proofs.styles.Styles.style_prop.Goals as goal

abbrev plain : Selector
plain = record { part = Main; states = 0 }

pub replace-requires-clause-there : goal.replace-requires-clause-there
replace-requires-clause-there c =
    let s = c.self.inside in
    let there = setting_there s.made s.entries s.uses c.self.invariant c.args.id c.ranges.id.fits c.args.self.now c.self.view_is c.args.prop c.in-Some.place c.in-Some.ensures in
    subst (λ o. c.in-Some.place < length (list_of s.entries o)) (sym c.style_owner.ensures.value) there

pub replace-requires-clause-same : goal.replace-requires-clause-same
replace-requires-clause-same c =
    let s = c.self.inside in
    let placed = setting_placed s.made s.entries s.uses c.self.invariant c.args.id c.ranges.id.fits c.args.self.now c.self.view_is c.args.prop c.in-Some.place c.in-Some.ensures in
    rw (c.style_owner.ensures.value, c.entry_of-entry.ensures) placed

pub returns-in-Some-clause-answer : goal.returns-in-Some-clause-answer
returns-in-Some-clause-answer c =
    sym (prop_there c.args.self.now c.args.id c.args.prop c.in-Some.place c.in-Some.ensures (sym c.if-not-has_style.ensures))

pub returns-in-Some-clause-ok : goal.returns-in-Some-clause-ok
returns-in-Some-clause-ok c =
    let s = c.self.inside in let id = c.args.id in
    let fits = c.ranges.value in let made = simp to_z-of_z at c.entry_of-entry.ensures in
    ap (λ e. styles_of s.made e s.uses) (c.replace.ensures ∙ ap (λ o. replaced s.entries o c.in-Some.place c.entry_of-entry.result) c.style_owner.ensures.value ∙ ap (replaced s.entries (first_style + id) c.in-Some.place) made)
    ∙ prop_replaced s.made s.entries s.uses c.self.invariant id c.ranges.id.fits c.args.self.now c.self.view_is c.args.prop c.in-Some.place c.in-Some.ensures plain c.args.value

pub invariant_of-self-in-None : goal.invariant_of-self-in-None
invariant_of-self-in-None c =
    let s = c.self.inside in let id = c.args.id in
    let has = ap (λ s. has_style s.book.styles id) c.self.view_is ∙ sym c.if-not-has_style.ensures in
    let more = more_kept s.made s.entries s.uses c.self.invariant id c.ranges.id.fits c.entry_of-entry.result has in
    either c.push.result c.push.ensures.ok c.push.ensures.refused
    (λ e. subst (λ e. AreStyles s.made e s.uses) (sym (e ∙ ap (λ o. pushed s.entries o c.entry_of-entry.result) c.style_owner-in-None.ensures.value)) more)
    (λ e. subst (λ e. AreStyles s.made e s.uses) (sym e) c.self.invariant)

pub returns-in-None-clause-answer : goal.returns-in-None-clause-answer
returns-in-None-clause-answer c =
    c.push.ensures.answer
    ∙ ap (λ s. full_answer s.spare_entries Entries) c.self.view_is
    ∙ sym (prop_none c.args.self.now c.args.id c.args.prop c.in-None.ensures (sym c.if-not-has_style.ensures))

pub returns-in-None-clause-ok : goal.returns-in-None-clause-ok
returns-in-None-clause-ok c =
    let s = c.self.inside in let id = c.args.id in
    let fits = c.ranges.value in let made = simp to_z-of_z at c.entry_of-entry.ensures in
    let after = prop_pushed s.made s.entries s.uses c.self.invariant id c.ranges.id.fits c.args.self.now c.self.view_is c.args.prop c.in-None.ensures plain c.args.value in
    on_ok_weaker c.push.result (λ e. ap (λ e. styles_of s.made e s.uses) (e ∙ ap (λ o. pushed s.entries o c.entry_of-entry.result) c.style_owner-in-None.ensures.value ∙ ap (pushed s.entries (first_style + id)) made) ∙ after) c.push.ensures.ok
