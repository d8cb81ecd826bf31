use Rattle.std.proofs.Common.{◌≡◌, ◌∙◌, sym, ap, subst, option_map, ℤ, Some, FitsSigned, w32, to_z, of_z, rules}
use Rattle.std.proofs.lemmas.Int.{to_z-of_z}
use Rattle.run_defs.specs.Making.{make}
use Rattle.scene_defs.specs.Row.{shown_row}
use Rattle.scene_defs.specs.Scene.{Scene, row_at}
use Rattle.scene_defs.specs.declared.Change.TheVariants as change
use Rattle.gui_board.specs.Boards.{machine_of, stage}
use Rattle.gui_board.specs.Stages.{Played}
use Rattle.gui_play.proofs.Values.{valued, valued_none, valued_same}
use Rattle.gui_play.proofs.reactions.put_value.Goals as goal
use Rattle.gui_play.proofs.reactions.put_value.Goals.{In-Some}

row_is : (c : In-Some) → row_at (machine_of c.args.board.now).scene c.args.h.0 ≡ Some (shown_row c.in-Some.row.now)
row_is c = sym (sym (ap (option_map (λ r. shown_row r.now)) c.in-Some.is) ∙ (c.row.ensures.value ∙ ap (λ (s : Scene). row_at s c.args.h.0) c.store.ensures))

pub returns-in_default : goal.returns-in_default
returns-in_default c = λ log.
    valued_none (stage c.args.board.now log) c.args.n c.args.h
    (sym (sym (ap (option_map (λ r. shown_row r.now)) c.in_default.is) ∙ (c.row.ensures.value ∙ ap (λ (s : Scene). row_at s c.args.h.0) c.store.ensures)))

pub returns-then-value-row : goal.returns-then-value-row
returns-then-value-row c = λ log.
    let old = stage c.args.board.now log in
    let low : FitsSigned w32 c.in-Some.row.now.min = search rules in
    let high : FitsSigned w32 c.in-Some.row.now.max = search rules in
    let n : FitsSigned w32 c.args.n = c.ranges.n in
    let value : FitsSigned w32 c.brought_in-value.result = search rules in
    let is = simp to_z-of_z at c.brought_in-value.ensures in
    let done = c.change.ensures.done log in
    valued old (stage c.change.new.self log) c.args.n c.args.h (shown_row c.in-Some.row.now) (row_is (goal.at.returns-then-value-row c).In-Some)
    (λ same. c.if-value-row.true (ap (of_z w32) (is ∙ same)))
    (subst (λ (v : ℤ). Played old (stage c.change.new.self log) (make (change.Value c.args.h v) (machine_of c.args.board.now))) is (simp to_z-of_z at done))

pub returns-else-value-row : goal.returns-else-value-row
returns-else-value-row c = λ log.
    let low : FitsSigned w32 c.in-Some.row.now.min = search rules in
    let high : FitsSigned w32 c.in-Some.row.now.max = search rules in
    let now : FitsSigned w32 c.in-Some.row.now.value = search rules in
    let n : FitsSigned w32 c.args.n = c.ranges.n in
    let value : FitsSigned w32 c.brought_in-value.result = search rules in
    let is = simp to_z-of_z at c.brought_in-value.ensures in
    let both = ap (to_z w32) c.if-value-row.false in
    valued_same (stage c.args.board.now log) c.args.n c.args.h (shown_row c.in-Some.row.now) (row_is (goal.at.returns-else-value-row c).In-Some)
    (sym is ∙ (simp to_z-of_z at both))
