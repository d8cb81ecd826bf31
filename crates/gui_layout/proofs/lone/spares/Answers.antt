use Rattle.std.proofs.Common.{◌∙◌, sym, ap, max}
use Rattle.layout_defs.specs.Solving.{Span}
use Rattle.gui_layout.proofs.lone.spares.Goals as goal

pub returns-then-is_spared-clause-across : goal.returns-then-is_spared-clause-across
returns-then-is_spared-clause-across c is h k others all = c.is_spared.ensures c.if-is_spared.true others (all ∙ ap (λ (r : Span). max others r.across) (sym (c.out_of-out.ensures h k)))

pub returns-then-is_spared-clause-down : goal.returns-then-is_spared-clause-down
returns-then-is_spared-clause-down c is h k others all = c.is_spared-then-is_spared.ensures is others (all ∙ ap (λ (r : Span). max others r.down) (sym (c.out_of-out.ensures h k)))
