use Rattle.std.proofs.Common.{◌∙◌, sym, ap, Bool, Some, None, option_map, FitsSigned, w32}
use Rattle.std.specs.Prelude.{if◌then◌else◌}
use Rattle.std.proofs.lemmas.Int.{to_z-of_z}
use Rattle.gui_base.specs.Corners.{rect_of}
use Rattle.gui_change.specs.Canvas.{scene_in}
use Rattle.gui_board.proofs.LastHit.{hit_known}
use Rattle.gui_board.proofs.board.Board.hit_at.Goals as goal

pub returns-then-is_clicked : goal.returns-then-is_clicked
returns-then-is_clicked c =
    let x_fits : FitsSigned w32 c.args.x = c.ranges.x in
    let y_fits : FitsSigned w32 c.args.y = c.ranges.y in
    let scene = scene_in c.args.self.now.canvas in
    let known = hit_known scene c.args.x c.args.y c.args.n c.in_ok-entry.entry (option_map rect_of c.visible-visible.result) c.is_clicked.result c.in_ok-entry.ensures (sym c.is_bars_at.ensures ∙ c.if-is_bars_at.false) c.visible-visible.ensures (simp to_z-of_z at c.is_clicked.ensures) in
    sym (known ∙ ap (λ (q : Bool). if q then Some c.in_ok-entry.entry.h else None) c.if-is_clicked.true)

pub returns-else-is_clicked : goal.returns-else-is_clicked
returns-else-is_clicked c =
    let x_fits : FitsSigned w32 c.args.x = c.ranges.x in
    let y_fits : FitsSigned w32 c.args.y = c.ranges.y in
    let scene = scene_in c.args.self.now.canvas in
    let known = hit_known scene c.args.x c.args.y c.args.n c.in_ok-entry.entry (option_map rect_of c.visible-visible.result) c.is_clicked.result c.in_ok-entry.ensures (sym c.is_bars_at.ensures ∙ c.if-is_bars_at.false) c.visible-visible.ensures (simp to_z-of_z at c.is_clicked.ensures) in
    sym (known ∙ ap (λ (q : Bool). if q then Some c.in_ok-entry.entry.h else None) c.if-is_clicked.false)
