use Rattle.std.proofs.Common.{◌∙◌, refl, arith}
use Rattle.std.proofs.lemmas.Bool.Decides.{nat_tests}
use Rattle.std.specs.List.{list_any}
use Rattle.gui_change.specs.Canvas.{scene_in}
use Rattle.run_defs.specs.Making.{is_hidden}
use Rattle.scene_defs.specs.Scene.{path_at}
use Rattle.gui_board.proofs.Shown.{usable_by, gone_unusable}
use Rattle.gui_board.proofs.board.Board.is_usable.Goals as goal
use Rattle.gui_board.proofs.board.Board.is_usable.Goals.{then-has, else-has}

pub returns-then-not-is_in_state : goal.returns-then-not-is_in_state
returns-then-not-is_in_state c =
    let scene = scene_in c.args.self.now.canvas in
    elim c.if-has.branch [
      | then-has w ↦ let usable = usable_by scene c.args.h c.has.result w.is_in_state.result c.is_hidden.result c.has.ensures w.is_in_state.ensures c.is_hidden.ensures in grind (arith, nat_tests, usable, w.if-has.true, w.value-is, c.if-not-is_in_state.true)
      | else-has w ↦ grind (arith, nat_tests, w.value-is, c.if-not-is_in_state.true)
    ]

pub returns-else-not-is_in_state : goal.returns-else-not-is_in_state
returns-else-not-is_in_state c =
    let scene = scene_in c.args.self.now.canvas in
    let hidden = list_any is_hidden (path_at scene c.args.h.0) in
    elim c.if-has.branch [
      | then-has w ↦ let usable = usable_by scene c.args.h c.has.result w.is_in_state.result hidden c.has.ensures w.is_in_state.ensures refl in grind (arith, nat_tests, usable, w.if-has.true, w.value-is, c.if-not-is_in_state.false)
      | else-has w ↦ c.if-not-is_in_state.false ∙ gone_unusable scene c.args.h c.has.result c.has.ensures w.if-has.false
    ]
