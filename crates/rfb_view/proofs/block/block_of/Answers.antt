use Rattle.std.proofs.Common.{arith, rules, w32}
use Rattle.std.proofs.lemmas.Int.{to_z-of_z}
use Rattle.gui_base.specs.Corners.{rect_of}
use Rattle.rfb_view.proofs.Lines.{block_is, block_fits, abs_is}
use lib.Signed.{yes_non_neg}
use Rattle.rfb_view.proofs.block.block_of.Goals as goal

pub overflow_cast-result-2 : goal.overflow_cast-result-2
overflow_cast-result-2 c =
    let f = block_fits c.args.width c.args.height (rect_of c.args.area) c.requires in
    rw (to_z-of_z w32 c.args.area.y1 (search rules)) (yes_non_neg f.top, record { fits = omega (arith, abs_is c.args.area.y1 f.top, f.high, c.ranges.height.fits) })

pub overflow_cast-result-4 : goal.overflow_cast-result-4
overflow_cast-result-4 c =
    let f = block_fits c.args.width c.args.height (rect_of c.args.area) c.requires in
    record { fits = omega (arith, c.height.ensures, f.high, c.ranges.height.fits) }

pub returns-clause-block : goal.returns-clause-block
returns-clause-block c =
    let f = block_fits c.args.width c.args.height (rect_of c.args.area) c.requires in
    rw (to_z-of_z w32 c.args.area.x1 (search rules), to_z-of_z w32 c.args.area.y1 (search rules), abs_is c.args.area.x1 f.left, abs_is c.args.area.y1 f.top, c.width.ensures, c.height.ensures)
    (block_is c.args.width c.args.height (rect_of c.args.area) c.requires)

pub returns-clause-wide : goal.returns-clause-wide
returns-clause-wide c =
    let f = block_fits c.args.width c.args.height (rect_of c.args.area) c.requires in
    rw (to_z-of_z w32 c.args.area.x1 (search rules), abs_is c.args.area.x1 f.left, c.width.ensures) f.wide

pub returns-clause-high : goal.returns-clause-high
returns-clause-high c =
    let f = block_fits c.args.width c.args.height (rect_of c.args.area) c.requires in
    rw (to_z-of_z w32 c.args.area.y1 (search rules), abs_is c.args.area.y1 f.top, c.height.ensures) f.high

pub returns-clause-some : goal.returns-clause-some
returns-clause-some c =
    let f = block_fits c.args.width c.args.height (rect_of c.args.area) c.requires in f.some
