use Rattle.std.proofs.Common.{◌≡◌, ◌∙◌, sym, ap, true, rules, ℕ, ℤ, Option, Some, option_map, FitsSigned, w32}
use Rattle.std.proofs.lemmas.Int.{to_z-of_z}
use Rattle.gui_layout.proofs.SceneBoxes.{row_found}
use Rattle.run_defs.specs.Pointing.{content}
use Rattle.run_defs.specs.Reactions.{is_slider}
use Rattle.scene_defs.specs.Row.{shown_row}
use Rattle.scene_defs.specs.declared.Row.{Row}
use Rattle.scene_defs.specs.Scene.{Scene, row_at}
use Rattle.gui_play.specs.Sliding.{slid_in, value_along}
use Rattle.gui_board.specs.Boards.{machine_of}
use Rattle.gui_play.proofs.Columns.{slid_is}
use Rattle.gui_play.proofs.pointing.slid_value.Goals as goal
use Rattle.gui_play.proofs.pointing.slid_value.Goals.{After-is_slider}

row_is : (c : After-is_slider) → Some (shown_row c.in_ok-row.row.now) ≡ row_at (machine_of c.args.board.now).scene c.args.h.0
row_is c = c.in_ok-row.ensures.value ∙ ap (λ (s : Scene). row_at s c.args.h.0) c.store.ensures

pub columns-requires : goal.columns-requires
columns-requires c = (row_found (machine_of c.args.board.now).scene c.args.h.0 (shown_row c.in_ok-row.row.now) (row_is ((goal.at.columns-requires c).After-is_slider))).0

pub returns : goal.returns
returns c =
    let scene = (machine_of c.args.board.now).scene in
    let row = shown_row c.in_ok-row.row.now in
    let area = content scene c.args.h.0 in
    let x : FitsSigned w32 c.args.x = c.ranges.x in
    let first : FitsSigned w32 c.in_ok-first.first = search rules in
    let value : FitsSigned w32 c.value_along.result = search rules in
    let slider : is_slider row.kind ≡ true = sym c.is_slider.ensures ∙ c.if-not-is_slider.false in
    let is = slid_is row area c.args.x slider in
    let along = c.value_along.ensures in
    let found : c.value_along.result ≡ value_along row c.in_ok-first.first c.in_ok-first.count c.args.x = simp to_z-of_z at along in
    simp to_z-of_z (ap (λ (n : ℤ). Some n) found
    ∙ (ap (option_map (λ (columns : ℤ × ℕ). value_along row columns.0 columns.1 c.args.x)) c.in_ok-first.ensures.value
    ∙ (sym is
    ∙ ap (λ (o : Option Row). slid_in o area c.args.x) (row_is ((goal.at.returns c).After-is_slider)))))

-- no columns, no value
pub returns-in_err-first : goal.returns-in_err-first
returns-in_err-first c =
    let row = shown_row c.in_ok-row.row.now in
    let area = content (machine_of c.args.board.now).scene c.args.h.0 in
    let slider : is_slider row.kind ≡ true = sym c.is_slider.ensures ∙ c.if-not-is_slider.false in
    let is = slid_is row area c.args.x slider in
    c.from_residual-in_err-first.ensures
    ∙ (ap (option_map (λ (columns : ℤ × ℕ). value_along row columns.0 columns.1 c.args.x)) c.in_err-first.ensures.value
    ∙ (sym is
    ∙ ap (λ (o : Option Row). slid_in o area c.args.x) (row_is ((goal.at.returns-in_err-first c).After-is_slider))))
