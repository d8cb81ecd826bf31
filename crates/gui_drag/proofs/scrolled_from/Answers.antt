use Rattle.std.proofs.Common.{◌≡◌, ◌∙◌, sym, ap, ℕ, Bool, cond, option_map}
use Rattle.std.specs.Prelude.{Some, find}
use Rattle.gui_base.specs.Forest.{Forest}
use Rattle.gui_tree.specs.Handles.{as_handle}
use Rattle.gui_tree.specs.Walks.{line_of}
use Rattle.scene_defs.specs.Scene.{Scene, handles_of, path_at}
use Rattle.scene_defs.specs.Valid.{IsValid}
use Rattle.gui_drag.specs.Dragging.{can_scroll}
use Rattle.gui_board.specs.Boards.{machine_of}
use Rattle.gui_drag.proofs.Scrolling.{first_at, first_line, first_on}
use Rattle.gui_drag.proofs.scrolled_from.Goals as goal
use Rattle.gui_drag.proofs.scrolled_from.Goals.{In-Some}

pub loop-k-init : goal.loop-k-init
loop-k-init c =
    let scene = (machine_of c.args.board.now).scene in
    let valid : IsValid scene = rw c.store.ensures at c.tree.ensures.valid in
    let trees = c.tree.ensures.forest ∙ ap (λ (s : Scene). handles_of s.trees) c.store.ensures in
    let line = c.into_iter-k-iterator.ensures.into_iter_gives ∙ (c.ancestors-k-items.ensures ∙ ap (λ (f : Forest ℕ). line_of f c.args.h.0) trees) in
    first_line scene c.args.down c.args.h.0 valid ∙ ap (first_at scene c.args.down) (sym line)

-- the nearest that is left, or else the first above it
nearest : (c : In-Some) → first_on (machine_of c.args.board.now).scene c.args.down (path_at (machine_of c.args.board.now).scene c.args.h.0) ≡ option_map as_handle (cond (can_scroll (machine_of c.args.board.now).scene c.args.down c.in-Some.k) (Some c.in-Some.k.0) (find (λ (j : ℕ). can_scroll (machine_of c.args.board.now).scene c.args.down (as_handle j)) c.next.new.self))
nearest c = c.loop-k.invariant ∙ ap (first_at (machine_of c.args.board.now).scene c.args.down) c.in-Some.ensures.steps

-- where the one at hand is told of
told : (c : In-Some) (can : Bool) → can_scroll (machine_of c.args.board.now).scene c.args.down c.in-Some.k ≡ can →
    first_on (machine_of c.args.board.now).scene c.args.down (path_at (machine_of c.args.board.now).scene c.args.h.0) ≡ option_map as_handle (cond can (Some c.in-Some.k.0) (find (λ (j : ℕ). can_scroll (machine_of c.args.board.now).scene c.args.down (as_handle j)) c.next.new.self))
told c can is =
    nearest c ∙ ap (λ (b : Bool). option_map as_handle (cond b (Some c.in-Some.k.0) (find (λ (j : ℕ). can_scroll (machine_of c.args.board.now).scene c.args.down (as_handle j)) c.next.new.self))) is

pub returns-then-can_scroll : goal.returns-then-can_scroll
returns-then-can_scroll c = sym (told (goal.at.returns-then-can_scroll c).In-Some _ (sym c.can_scroll.ensures ∙ c.if-can_scroll.true))

pub loop-k-preserved : goal.loop-k-preserved
loop-k-preserved c = told (goal.at.loop-k-preserved c).In-Some _ (sym c.can_scroll.ensures ∙ c.if-can_scroll.false)

pub returns : goal.returns
returns c = sym (c.loop-k.invariant ∙ ap (first_at (machine_of c.args.board.now).scene c.args.down) c.in-None.ensures.steps.0)
