use Rattle.std.proofs.Common.{◌<◌, ap, ◌∙◌, rules}
use Rattle.gui_pool.specs.Lists.{cleared}
use Rattle.gui_style.specs.Kept.{styles_of}
use Rattle.gui_style.proofs.Views.{all_forgotten}
use Rattle.gui_style.proofs.styles.Styles.forget.Goals as goal

pub returns : goal.returns
returns c =
    let s = c.self.inside in let h = c.args.h.0 in let within : c.args.h.0 < 65536 = search rules in
    ap (styles_of s.made c.clear.new.self) c.clear-2.ensures
    ∙ ap (λ e. styles_of s.made e (cleared s.uses h)) c.clear.ensures
    ∙ all_forgotten s.made s.entries s.uses c.self.invariant h within c.args.self.now c.self.view_is
