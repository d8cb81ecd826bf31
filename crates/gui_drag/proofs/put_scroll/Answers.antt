use Rattle.std.proofs.Common.{◌≡◌, ◌∙◌, sym, ap, option_map, Some, FitsSigned, w32}
use Rattle.std.proofs.lemmas.Int.{to_z-of_z}
use Rattle.scene_defs.specs.Row.{shown_row}
use Rattle.scene_defs.specs.Scene.{Scene, row_at}
use Rattle.gui_board.specs.Boards.{machine_of, stage}
use Rattle.gui_drag.proofs.Scrolling.{scrolled_none, scrolled_same, scrolled_made}
use Rattle.gui_drag.proofs.put_scroll.Goals.{In-Some}
use Rattle.gui_drag.proofs.put_scroll.Goals as goal

row_is : (c : In-Some) → row_at (machine_of c.args.board.now).scene c.args.h.0 ≡ Some (shown_row c.in-Some.row.now)
row_is c = sym (sym (ap (option_map (λ r. shown_row r.now)) c.in-Some.is) ∙ (c.row.ensures.value ∙ ap (λ (s : Scene). row_at s c.args.h.0) c.store.ensures))

pub returns-in_default : goal.returns-in_default
returns-in_default c = λ log.
    scrolled_none (stage c.args.board.now log) c.args.x c.args.y c.args.h
    (sym (sym (ap (option_map (λ r. shown_row r.now)) c.in_default.is) ∙ (c.row.ensures.value ∙ ap (λ (s : Scene). row_at s c.args.h.0) c.store.ensures)))

pub returns-then-not-is_scrolled_to : goal.returns-then-not-is_scrolled_to
returns-then-not-is_scrolled_to c = λ log.
    let x : FitsSigned w32 c.args.x = c.ranges.x in
    let y : FitsSigned w32 c.args.y = c.ranges.y in
    let is = simp to_z-of_z at c.is_scrolled_to.ensures in
    let done = c.change.ensures.done log in
    scrolled_made (stage c.args.board.now log) (stage c.change.new.self log) c.args.x c.args.y c.args.h (shown_row c.in-Some.row.now) (row_is (goal.at.returns-then-not-is_scrolled_to c).In-Some)
    (sym is ∙ c.if-not-is_scrolled_to.true) (simp to_z-of_z at done)

pub returns-else-not-is_scrolled_to : goal.returns-else-not-is_scrolled_to
returns-else-not-is_scrolled_to c = λ log.
    let x : FitsSigned w32 c.args.x = c.ranges.x in
    let y : FitsSigned w32 c.args.y = c.ranges.y in
    let is = simp to_z-of_z at c.is_scrolled_to.ensures in
    scrolled_same (stage c.args.board.now log) c.args.x c.args.y c.args.h (shown_row c.in-Some.row.now) (row_is (goal.at.returns-else-not-is_scrolled_to c).In-Some)
    (sym is ∙ c.if-not-is_scrolled_to.false)
