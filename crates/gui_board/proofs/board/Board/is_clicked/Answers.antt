use Rattle.std.proofs.Common.{◌≡◌, ◌∙◌, refl, sym, ap, Bool, true, false, Option, option_map, FitsSigned, w32}
use Rattle.std.specs.Prelude.{◌&&◌}
use Rattle.std.proofs.lemmas.Int.{to_z-of_z}
use Rattle.gui_base.specs.Corners.{rect_of}
use Rattle.gui_base.specs.declared.area.Area.{Area}
use Rattle.scene_defs.specs.Visible.{holds}
use Rattle.gui_board.proofs.board.Board.is_clicked.Goals as goal
use Rattle.gui_board.proofs.board.Board.is_clicked.Goals.{After-holds}

and-true : (a b : Bool) → b ≡ true → a ≡ (a && b)
and-true true b e = sym e
and-true false b e = refl

and-false : (a b : Bool) → b ≡ false → false ≡ (a && b)
and-false true b e = sym e
and-false false b e = refl

held : (c : After-holds) → c.holds.result ≡ holds (option_map rect_of c.args.visible) c.args.x c.args.y
held c =
    let x_fits : FitsSigned w32 c.args.x = c.ranges.x in
    let y_fits : FitsSigned w32 c.args.y = c.ranges.y in
    (simp to_z-of_z at c.holds.ensures) ∙ ap (λ (a : Option Area). holds (option_map rect_of a) c.args.x c.args.y) (sym c.in-Some.is)

pub returns-then-holds : goal.returns-then-holds
returns-then-holds c =
    let is = held (goal.at.returns-then-holds c).After-holds in
    c.is_flagged.ensures ∙ and-true _ _ (sym is ∙ c.if-holds.true)

pub returns-else-holds : goal.returns-else-holds
returns-else-holds c =
    let is = held (goal.at.returns-else-holds c).After-holds in
    c.if-holds.false ∙ and-false _ _ (sym is ∙ c.if-holds.false)
