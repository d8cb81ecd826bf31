use Rattle.std.proofs.Common.{◌≡◌, ◌∙◌, sym, ap, option_map, Some, ℤ, ◌+ℤ◌, FitsSigned, w32, rules}
use Rattle.std.proofs.lemmas.Int.{to_z-of_z}
use Rattle.gui_board.specs.Boards.{machine_of, stage}
use Rattle.scene_defs.specs.Row.{shown_row}
use Rattle.scene_defs.specs.Scene.{Scene, row_at}
use Rattle.gui_play.proofs.Values.{nudged, nudged_none, nudged_other, value_steps}
use Rattle.gui_play.proofs.reactions.nudge.Goals as goal
use Rattle.gui_play.proofs.reactions.nudge.Goals.{In-Some}

pub returns-in_default : goal.returns-in_default
returns-in_default c = λ log.
    nudged_none _ c.args.key c.args.h
    (sym (sym (ap (option_map (λ r. shown_row r.now)) c.in_default.is) ∙ (c.row.ensures.value ∙ ap (λ (s : Scene). row_at s c.args.h.0) c.store.ensures)))

row_is : (c : In-Some) → row_at (machine_of c.args.board.now).scene c.args.h.0 ≡ Some (shown_row c.in-Some.row.now)
row_is c = sym (sym (ap (option_map (λ r. shown_row r.now)) c.in-Some.is) ∙ (c.row.ensures.value ∙ ap (λ (s : Scene). row_at s c.args.h.0) c.store.ensures))

pub overflow_add-n : goal.overflow_add-n
overflow_add-n c =
    let now : FitsSigned w32 c.in-Some.row.now.value = search rules in
    let step : FitsSigned w32 c.step_of.result = search rules in
    simp to_z-of_z (value_steps (shown_row c.in-Some.row.now) c.args.key c.step_of.result c.in-Some.ensures.in_range c.step_of.ensures)

pub returns-then-is_slider : goal.returns-then-is_slider
returns-then-is_slider c = λ log.
    let row = shown_row c.in-Some.row.now in
    let now : FitsSigned w32 c.in-Some.row.now.value = search rules in
    let step : FitsSigned w32 c.step_of.result = search rules in
    let sum : FitsSigned w32 (c.in-Some.row.now.value +ℤ c.step_of.result) = value_steps row c.args.key c.step_of.result c.in-Some.ensures.in_range c.step_of.ensures in
    let played = c.put_value.ensures log in
    nudged (stage c.args.board.now log) (stage c.put_value.new.board log) c.args.key c.args.h row (c.in-Some.row.now.value +ℤ c.step_of.result) (row_is (goal.at.returns-then-is_slider c).In-Some)
    (sym c.is_slider.ensures ∙ c.if-is_slider.true) (ap (λ (s : ℤ). c.in-Some.row.now.value +ℤ s) c.step_of.ensures) (simp to_z-of_z at played)

pub returns-else-is_slider : goal.returns-else-is_slider
returns-else-is_slider c = λ log.
    nudged_other (stage c.args.board.now log) c.args.key c.args.h (shown_row c.in-Some.row.now) (row_is (goal.at.returns-else-is_slider c).In-Some)
    (sym c.is_slider.ensures ∙ c.if-is_slider.false)
