use Rattle.std.proofs.Common.{sym, ap, ◌∙◌}
use Rattle.gui_style.specs.Kept.{styles_of}
use Rattle.gui_style.proofs.Views.{style_vacant, style_inserted}
use Rattle.gui_style.proofs.styles.Styles.style.Goals.{in-Ok, in-Err}
use Rattle.gui_style.proofs.styles.Styles.style.Goals as goal

pub insert-requires-clause-vacant : goal.insert-requires-clause-vacant
insert-requires-clause-vacant c =
    let s = c.self.inside in
    style_vacant s.made s.entries s.uses c.self.invariant c.args.id c.ranges.id.fits c.args.self.now c.self.view_is (sym c.if-has_style.ensures)

pub returns-clause-ok : goal.returns-clause-ok
returns-clause-ok c =
    let s = c.self.inside in
    let inserts = style_inserted s.made s.entries s.uses c.self.invariant c.args.id c.ranges.id.fits c.args.self.now c.self.view_is (sym c.if-has_style.ensures) in
    elim c.match-insert.branch [
      | in-Ok w ↦ rw w.result-is (ap (λ m. styles_of m s.entries s.uses) w.in-Ok.ensures.inserts ∙ inserts)
      | in-Err w ↦ rw w.result-is tt
    ]
