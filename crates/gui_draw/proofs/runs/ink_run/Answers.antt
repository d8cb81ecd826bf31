use Rattle.gui_draw.proofs.Common.{◌≡◌, ◌∙◌, ◌+◌, ap, length, subst, arith, take, ℕ, chars, rect_of, face_in, sym, ints, Rect, IsInside, within, only, plain, Draws, run_at}
use Rattle.std.proofs.Common.{length-drop}
use Rattle.gui_draw.proofs.Running.{running_none, running_more}
use Rattle.gui_draw.proofs.runs.ink_run.Goals as goal

pub cells-init : goal.cells-init
cells-init g c = running_none _ _ _ (rect_of c.args.brush.part) c.args.brush.fg c.args.brush.opa c.args.buf.now c.args.steps.now c.args.start.x c.args.start.y

pub cells-preserved : goal.cells-preserved
cells-preserved g c =
    let face = face_in c.args.lettering.fonts.now c.args.lettering.look.font in
    let e : c.advance.result + c.args.lettering.look.letter ≡ (face.cell c.in-Some.c).advance + c.args.lettering.look.letter = ap (λ (n : ℕ). n + c.args.lettering.look.letter) c.advance.ensures in
    running_more face c.args.lettering.look.letter (chars c.args.run.text.now) (rect_of c.args.brush.part) c.args.brush.fg c.args.brush.opa _ c.cells.buf _ _ c.cells.steps _ c.args.start.x c.args.start.y c.cells.counter c.in-Some.c (chars c.cells.at.left.now) (chars c.in-Some.left.now) c.cells.at.cell.x c.cells.at.cell.y _ _
    c.cells.invariant c.in-Some.ensures.chars (rw e at c.next_cell-cell.ensures.few) c.ink_cell.ensures (rw e at c.next_cell-cell.ensures.x) c.next_cell-cell.ensures.y

pub returns : goal.returns
returns g c =
    let all : c.cells.counter ≡ c.args.run.count = omega arith in
    let face = face_in c.args.lettering.fonts.now c.args.lettering.look.font in
    subst (λ (n : ℕ). Draws c.args.buf.now c.cells.buf (c.args.steps.now + n) c.cells.steps (within (rect_of c.args.brush.part) (only (run_at face c.args.lettering.look.letter (take n (chars c.args.run.text.now)) c.args.start.x c.args.start.y) (plain c.args.brush.fg c.args.brush.opa)))) all c.cells.invariant.drawn

pub unreachable-requires : goal.unreachable-requires
unreachable-requires g c =
    let none = sym (c.in_default.ensures.chars) ∙ c.cells.invariant.rest_is in
    omega (arith, length-drop c.cells.counter (chars c.args.run.text.now), ap length none)

pub ink_cell-requires-clause-near : goal.ink_cell-requires-clause-near
ink_cell-requires-clause-near g c = (omega (arith, ints, c.cells.invariant, c.requires), omega (arith, ints))

pub ink_cell-requires-clause-inside : goal.ink_cell-requires-clause-inside
ink_cell-requires-clause-inside g c = subst (λ (area : Rect). IsInside area (rect_of c.args.brush.part)) (sym c.cells.invariant.drawn.area_stays) c.requires.inside

pub ink_cell-requires-clause-there : goal.ink_cell-requires-clause-there
ink_cell-requires-clause-there g c = c.requires.there

pub next_cell-cell-requires-clause-near : goal.next_cell-cell-requires-clause-near
next_cell-cell-requires-clause-near g c = omega (arith, ints)

pub next_cell-cell-requires-clause-letter : goal.next_cell-cell-requires-clause-letter
next_cell-cell-requires-clause-letter g c = c.requires.letter
