use Rattle.gui_draw.proofs.Common.{pos, ◌≡◌, ◌∙◌, refl, sym, subst, ◌+◌, ◌≤◌, arith, ints, Rect, rect_of, face_in, IsInside, chars}
use Rattle.std.proofs.Common.{◌+ℤ◌}
use Rattle.text_defs.specs.Lines.{LineSetting}
use Rattle.gui_font.specs.LinesLeft.{runs_left, setting_of}
use Rattle.gui_font.specs.Runs.{GivesRun}
use Rattle.gui_draw.proofs.Lining.{lining_none, lining_more, lining_all, pen_line, run_count}
use Rattle.gui_draw.proofs.texts.ink_lines.Goals as goal

pub lines-init : goal.lines-init
lines-init g c = record { same = refl; lining = lining_none _ _ _ _ _ (rect_of c.args.brush.part) _ _ _ _ _ _ c.requires.lines }

pub ink_line-requires-clause-inside : goal.ink_line-requires-clause-inside
ink_line-requires-clause-inside g c = subst (λ (area : Rect). IsInside area (rect_of c.args.brush.part)) (sym c.lines.invariant.lining.area_is) c.requires.inside

pub lines-preserved : goal.lines-preserved
lines-preserved g c =
    let s = setting_of c.args.lines in
    let inv = c.lines.invariant in
    let before = runs_left c.lines.lines in
    let after = runs_left c.next_run.new.self in
    let run = c.in-Some.run' in
    let given : GivesRun s before after run = subst (λ (t : LineSetting). GivesRun t before after run) inv.same c.in-Some.ensures.run in
    let face = face_in c.args.lettering.fonts.now c.args.lettering.look.font in
    let pitch = face.height + c.args.lettering.look.line in
    let height = c.height.ensures in
    let same_face = c.requires.face in
    let tall : s.face.height ≤ pitch = rw same_face (omega arith) in
    let small : pitch ≤ 510 = omega arith in
    let down : c.below-at.result.y ≡ c.lines.at.y +ℤ pos pitch = omega (arith, ints, c.below-at.ensures.y) in
    record {
      same = c.in-Some.ensures.same ∙ inv.same;
      lining = lining_more s c.args.lettering.look.align pitch c.width-whole.result (runs_left c.args.lines) (rect_of c.args.brush.part) c.args.brush.fg c.args.brush.opa _ _ _ _ _ _ _ _ before after given.first run.count _ _ c.line_start-first.result.x c.line_start-first.result.y _ _ inv.lining given.steps
          (run_count run.count (chars run.text.now) given.first.chars given.characters given.within) tall small
          (rw given.line at c.line_start-first.ensures.x) c.line_start-first.ensures.y c.below-at.ensures.x down
          (rw (given.characters, ← c.requires.face, ← c.requires.letter_is) at c.ink_line.ensures);
    }

pub returns : goal.returns
returns g c =
    rw (c.width-whole.ensures, c.corner_of-at.ensures.x, c.corner_of-at.ensures.y) at
    (lining_all _ _ _ _ _ (rect_of c.args.brush.part) _ _ _ _ _ _ _ _ _ _ _ c.lines.invariant.lining c.in_default.ensures.run.0)

pub ink_line-requires-clause-near : goal.ink_line-requires-clause-near
ink_line-requires-clause-near g c =
    (c.line_start-first.ensures.pen, rw c.line_start-first.ensures.y (pen_line c.lines.invariant.lining (rw c.corner_of-at.ensures.y c.args.area.y1_fits)))

pub line_start-first-requires : goal.line_start-first-requires
line_start-first-requires g c = record { near = rw (c.lines.invariant.lining.x_is, c.corner_of-at.ensures.x) c.args.area.x1_fits }

pub below-at-requires-clause-near : goal.below-at-requires-clause-near
below-at-requires-clause-near g c = pen_line c.lines.invariant.lining (rw c.corner_of-at.ensures.y c.args.area.y1_fits)
