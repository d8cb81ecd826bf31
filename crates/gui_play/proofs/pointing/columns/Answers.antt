use Rattle.std.proofs.Common.{◌≡◌, ◌∙◌, sym, arith, pos, ◌+ℤ◌, w32, to_z, of_z}
use Rattle.std.proofs.lemmas.Int.{ints}
use Rattle.gui_base.specs.Corners.{rect_of}
use Rattle.gui_board.specs.Boards.{machine_of}
use Rattle.gui_play.proofs.Columns.{columns_are}
use Rattle.gui_play.proofs.pointing.columns.Goals as goal

pub returns-clause-value : goal.returns-clause-value
returns-clause-value c =
    let are = columns_are (machine_of c.args.board.now).scene c.args.h.0 (rect_of c.in_ok-place.place) c.inset-left.result c.inset-right.result (c.in_ok-place.ensures.value ∙ c.places.ensures.solved c.args.h.0) c.inset-left.ensures.value c.inset-right.ensures.value in
    let near = c.in_ok-place.ensures.near in
    let small = c.inset-left.ensures.small in
    let first : to_z w32 (of_z w32 (to_z w32 (of_z w32 c.in_ok-place.place.x1) +ℤ to_z w32 c.inset-left.result)) ≡ c.in_ok-place.place.x1 +ℤ pos c.inset-left.result = omega (arith, ints) in
    rw (first, c.saturating_sub-count.ensures, c.width.ensures) (sym are)
