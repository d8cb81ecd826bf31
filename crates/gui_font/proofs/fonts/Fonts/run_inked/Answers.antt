use Rattle.std.proofs.Common.{◌≡◌, ◌∙◌, refl, sym, ◌-◌, ◌+◌, ◌<◌, arith, ◌-ℤ◌}
use Rattle.std.specs.Prelude.{pos}
use Rattle.std.specs.Str.{chars}
use Rattle.std.proofs.lemmas.Int.{ints}
use Rattle.gui_font.specs.Sets.{face_in}
use Rattle.gui_font.proofs.Inking.{run_none, run_over, run_first}
use Rattle.gui_font.proofs.fonts.Fonts.run_inked.Goals as goal

pub cells-init : goal.cells-init
cells-init c =
    let all : c.args.count - 0 ≡ c.args.count = omega arith in
    record { still = rw all refl; low = omega (arith, ints); high = omega (arith, ints) }

pub cells-preserved : goal.cells-preserved
cells-preserved c =
    let face = face_in c.args.self.now c.args.look.font in
    let pen = c.cells.pen in
    let n : c.args.count - c.cells._i - 1 ≡ c.args.count - (c.cells._i + 1) = omega arith in
    let some : 0 < c.args.count - c.cells._i = let t = c.cells-test.true in omega arith in
    let low = c.cells.invariant.low in
    let high = c.cells.invariant.high in
    let advance = c.advance.ensures in
    let x : c.moved.result.x ≡ pen.at.x -ℤ pos ((face.cell c.in-Some.c).advance + c.args.look.letter) = omega (arith, ints, c.moved.ensures.x) in
    record {
      still = c.cells.invariant.still
          ∙ run_first face c.args.look.letter pen.at.x pen.at.y (c.args.count - c.cells._i) c.in-Some.c (chars pen.rest.now) (chars c.in-Some.rest.now) some c.in-Some.ensures.chars
          ∙ rw (sym c.if-cell_inked.ensures, n, sym x, c.moved.ensures.y) refl;
      low = omega (arith, ints);
      high = omega (arith, ints);
    }

pub returns : goal.returns
returns c =
    let over : c.args.count - c.cells._i ≡ 0 = omega arith in
    sym (c.cells.invariant.still ∙ run_over _ c.args.look.letter c.cells.pen.at.x c.cells.pen.at.y (c.args.count - c.cells._i) (chars c.cells.pen.rest.now) over)

pub returns-then-cell_inked : goal.returns-then-cell_inked
returns-then-cell_inked c =
    let pen = c.cells.pen in
    let some : 0 < c.args.count - c.cells._i = let t = c.cells-test.true in omega arith in
    sym (c.cells.invariant.still
    ∙ run_first _ c.args.look.letter pen.at.x pen.at.y (c.args.count - c.cells._i) c.in-Some.c (chars pen.rest.now) (chars c.in-Some.rest.now) some c.in-Some.ensures.chars
    ∙ rw (sym c.if-cell_inked.ensures) refl)

pub returns-in_default : goal.returns-in_default
returns-in_default c = sym (c.cells.invariant.still ∙ run_none _ c.args.look.letter c.cells.pen.at.x c.cells.pen.at.y (c.args.count - c.cells._i) (chars c.cells.pen.rest.now) c.in_default.ensures.chars)

pub moved-requires-clause-near : goal.moved-requires-clause-near
moved-requires-clause-near c =
    let low = c.cells.invariant.low in
    let high = c.cells.invariant.high in
    (omega (arith, ints), omega (arith, ints))
