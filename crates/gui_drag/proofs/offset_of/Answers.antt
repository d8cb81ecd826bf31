use Rattle.std.proofs.Common.{◌≡◌, ◌∙◌, sym, ap, subst}
use Rattle.run_defs.specs.Dragging.{pair_of, offset_of}
use Rattle.scene_defs.specs.Valid.{IsValid}
use Rattle.gui_board.specs.Boards.{machine_of}
use Rattle.gui_drag.proofs.Offsets.{IsSmall, offset_small}
use Rattle.gui_drag.proofs.offset_of.Goals as goal

pub returns-clause-value : goal.returns-clause-value
returns-clause-value c = c.offset_in.ensures ∙ ap pair_of (c.places.ensures.reached.offsets c.args.h.0)

pub returns-clause-small : goal.returns-clause-small
returns-clause-small c =
    let scene = (machine_of c.args.board.now).scene in
    let valid : IsValid scene = rw c.store.ensures at c.tree-tree.ensures.valid in
    let is : c.offset_in.result ≡ offset_of scene c.args.h.0 = c.offset_in.ensures ∙ ap pair_of (c.places.ensures.reached.offsets c.args.h.0) in
    subst IsSmall (sym is) (offset_small scene c.args.h.0 valid)
