use Rattle.std.proofs.Common.{◌≡◌, ◌∙◌, sym, subst, Some, get_or}
use Rattle.std.specs.Prelude.{option_map}
use Rattle.gui_base.specs.Forest.{parent_of}
use Rattle.gui_tree.specs.Handles.{as_handle}
use Rattle.gui_boxes.specs.Around.{SparesOne}
use Rattle.gui_boxes.specs.Tables.{told}
use Rattle.gui_layout.proofs.Climbing.{number}
use Rattle.gui_boxes.proofs.Entered.{nothing}
use Rattle.gui_layout.proofs.lone.lone_child.Goals as goal

pub returns-then-spares_in-clause-spared : goal.returns-then-spares_in-clause-spared
returns-then-spares_in-clause-spared c q up =
    let f = c.args.tree.now.forest in
    let h = get_or c.args.marked.now 0 nothing in
    let p = c.in_ok-parent.parent in
    let is : Some p ≡ option_map as_handle (parent_of f h.0) = c.in_ok-parent.ensures in
    let same : p.0 ≡ q = let e : Some p.0 ≡ Some q = sym (number (parent_of f h.0) p is) ∙ up in cc in
    subst (λ j. SparesOne f (told c.args.entries.now) h.0 j) same (c.spares_in.ensures c.if-spares_in.true f)
