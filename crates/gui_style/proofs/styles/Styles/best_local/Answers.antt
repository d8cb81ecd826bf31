use Rattle.std.proofs.Common.{◌<◌, ap, ◌∙◌, sym, map, fold, rules}
use Rattle.style_defs.specs.Cascade.{of_entry, stronger}
use Rattle.style_defs.specs.Book.{locals_of}
use Rattle.gui_pool.specs.Lists.{list_of}
use Rattle.gui_style.proofs.OfProp.{stronger_of}
use Rattle.gui_style.proofs.Views.{here}
use Rattle.gui_style.proofs.styles.Styles.best_local.Goals as goal

pub loop-entry-init : goal.loop-entry-init
loop-entry-init c =
    let s = c.self.inside in let h = c.args.h.0 in let within : c.args.h.0 < 65536 = search rules in
    let given = map (of_entry c.args.part c.args.states c.args.prop) in
    ap (λ b. fold stronger c.args.shared (given (locals_of b.book h))) (sym c.self.view_is)
    ∙ ap (λ es. fold stronger c.args.shared (given es)) (here s.made s.entries s.uses c.self.invariant h within)
    ∙ stronger_of c.args.prop c.args.part c.args.states c.args.shared (list_of s.entries h)
    ∙ ap (λ es. fold stronger c.args.shared (given es)) (sym c.of_prop-entries.ensures.value)
