use Rattle.std.proofs.Common.{ap, ◌∙◌}
use Rattle.std.specs.List.{list_any}
use Rattle.gui_pool.specs.Lists.{list_of}
use Rattle.gui_style.specs.Styles.{is_handle, is_of_style}
use Rattle.gui_style.proofs.Users.{these}
use Rattle.gui_style.proofs.uses.Uses.users.Goals as goal

pub returns-clause-these : goal.returns-clause-these
returns-clause-these c = λ h.
    let s = c.self.inside in
    ap (list_any (is_handle h)) c.of.ensures.value
    ∙ these s.all s.users c.self.invariant c.args.style h
    ∙ ap (λ t. list_any (is_of_style c.args.style) (list_of t h)) c.self.view_is
