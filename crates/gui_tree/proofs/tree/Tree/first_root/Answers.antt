use Rattle.std.proofs.Common.{ap, sym, ◌∙◌, option_map}
use Rattle.gui_tree.specs.Handles.{as_handle}
use Rattle.gui_tree.proofs.Found.{no_root, root-of}
use Rattle.gui_tree.proofs.tree.Tree.first_root.Goals as goal

pub returns-in_err-get : goal.returns-in_err-get
returns-in_err-get c = absurd (no_root c.self.inside.nodes c.self.inside.objects c.self.invariant.tree (sym c.get.ensures ∙ c.in_err-get.was))

pub returns : goal.returns
returns c =
    let first = root-of c.self.inside.nodes c.self.inside.objects c.self.invariant.tree c.in_ok-get.field-0 (sym c.get.ensures ∙ c.in_ok-get.was) in
    rw (← c.self.view_is) (c.handle_or_none.ensures ∙ ap (option_map as_handle) (sym first))
