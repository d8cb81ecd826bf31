use Rattle.std.proofs.Common.{◌≡◌, ◌∙◌, sym, ap, option_map, Some, FitsSigned, w32}
use Rattle.std.proofs.lemmas.Int.{to_z-of_z}
use Rattle.scene_defs.specs.Row.{shown_row}
use Rattle.scene_defs.specs.Scene.{Scene, row_at}
use Rattle.gui_board.specs.Boards.{machine_of, stage}
use Rattle.gui_play.proofs.Animated.{var_of_none, var_kept, var_put}
use Rattle.gui_play.proofs.animating.put_var.Goals as goal
use Rattle.gui_play.proofs.animating.put_var.Goals.{In-Some}

row_is : (c : In-Some) → row_at (machine_of c.args.board.now).scene c.args.h.0 ≡ Some (shown_row c.in-Some.row.now)
row_is c = sym (sym (ap (option_map (λ r. shown_row r.now)) c.in-Some.is) ∙ (c.row.ensures.value ∙ ap (λ (s : Scene). row_at s c.args.h.0) c.store.ensures))

pub returns-in_default : goal.returns-in_default
returns-in_default c = λ log.
    var_of_none (stage c.args.board.now log) c.args.var c.args.n c.args.h
    (sym (sym (ap (option_map (λ r. shown_row r.now)) c.in_default.is) ∙ (c.row.ensures.value ∙ ap (λ (s : Scene). row_at s c.args.h.0) c.store.ensures)))

pub returns-in-Some-var_change : goal.returns-in-Some-var_change
returns-in-Some-var_change c = λ log.
    let n : FitsSigned w32 c.args.n = c.ranges.n in
    let value = simp to_z-of_z at c.var_change.ensures.value in
    var_put (stage c.args.board.now log) (stage c.change.new.self log) c.args.var c.args.n c.args.h c.in-Some.row.now c.in-Some-var_change.change (row_is (goal.at.returns-in-Some-var_change c).In-Some)
    (sym c.in-Some-var_change.is ∙ value) (c.change.ensures.done log)

pub returns-in_default-var_change : goal.returns-in_default-var_change
returns-in_default-var_change c = λ log.
    let n : FitsSigned w32 c.args.n = c.ranges.n in
    let value = simp to_z-of_z at c.var_change.ensures.value in
    var_kept (stage c.args.board.now log) c.args.var c.args.n c.args.h c.in-Some.row.now (row_is (goal.at.returns-in_default-var_change c).In-Some)
    (sym c.in_default-var_change.is ∙ value)
