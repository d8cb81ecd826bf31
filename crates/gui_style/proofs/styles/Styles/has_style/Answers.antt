use Rattle.std.proofs.Common.{sym, ap, ◌∙◌, arith}
use Rattle.style_defs.specs.Cascade.{has_style}
use Rattle.gui_style.proofs.Shared.{has_made}
use Rattle.gui_style.proofs.styles.Styles.has_style.Goals as goal

pub returns : goal.returns
returns c =
    let s = c.self.inside in let id = c.args.id in
    let has = sym (has_made s.made s.entries id) ∙ ap (λ s. has_style s.book.styles id) c.self.view_is in
    rw (← has) (grind arith)
