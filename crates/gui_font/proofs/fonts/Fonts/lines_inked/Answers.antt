use Rattle.std.proofs.Common.{◌≡◌, ◌∙◌, refl, sym, ap, subst, ◌+◌, ◌≤◌, suc, length, arith, ◌-ℤ◌, false}
use Rattle.std.specs.Prelude.{pos}
use Rattle.std.proofs.lemmas.Int.{ints}
use Rattle.text_defs.specs.Ink.{run_inked, line_at}
use Rattle.text_defs.specs.Lines.{LineSetting}
use Rattle.gui_font.specs.LinesLeft.{runs_left, setting_of}
use Rattle.gui_font.specs.Runs.{GivesRun}
use Rattle.gui_font.specs.Sets.{face_in}
use Rattle.gui_font.proofs.Inking.{lines_first}
use Rattle.gui_font.proofs.fonts.Fonts.lines_inked.Goals as goal

pub lines-preserved : goal.lines-preserved
lines-preserved c =
    let s = setting_of c.args.lines in
    let inv = c.lines.invariant in
    let point = c.lines.point in
    let before = runs_left c.lines.lines in
    let after = runs_left c.next_run.new.self in
    let run = c.in-Some.run' in
    let given : GivesRun s before after run = subst (λ (t : LineSetting). GivesRun t before after run) inv.same c.in-Some.ensures.run in
    let align = c.args.look.align in
    let x : point.x -ℤ line_at align (pos c.args.whole) run.line.width ≡ c.moved.result.x = omega (arith, ints, c.moved.ensures.x, c.left_of-left.ensures.value) in
    let empty : run_inked s.face s.letter given.first.chars (point.x -ℤ line_at align (pos c.args.whole) run.line.width) point.y ≡ false =
    rw (← given.characters, c.requires.face, c.requires.letter, x, ← c.moved.ensures.y) (sym c.if-run_inked.ensures) in
    let pitch = (face_in c.args.self.now c.args.look.font).height + c.args.look.line in
    let shorter : length before ≡ suc (length after) = ap length given.steps in
    let few = inv.few in
    let low = inv.low in
    let high = inv.high in
    let height = c.height.ensures in
    let y : c.below-point.result.y ≡ point.y -ℤ pos pitch = omega (arith, ints, c.below-point.ensures.y) in
    let small : pitch ≤ 510 = omega arith in
    record {
      same = c.in-Some.ensures.same ∙ inv.same;
      still = inv.still ∙ lines_first s align pitch c.args.whole point.x point.y before after run given ∙ rw (empty, y, c.below-point.ensures.x) refl;
      few = omega arith;
      x_is = c.below-point.ensures.x ∙ inv.x_is;
      low = omega (arith, ints);
      high = omega (arith, ints);
    }
