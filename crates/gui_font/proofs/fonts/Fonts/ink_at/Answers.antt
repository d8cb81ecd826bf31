use Rattle.std.proofs.Common.{◌∙◌, ap, rules, FitsSigned, w32, ℤ, Some, arith}
use Rattle.std.proofs.lemmas.Int.{ints, to_z-of_z}
use Rattle.std.specs.Str.{chars}
use Rattle.gui_base.specs.Area.{nat_of}
use Rattle.gui_font.specs.LinesLeft.{runs_left, setting_of}
use Rattle.text_defs.specs.Lines.{lines}
use Rattle.gui_font.specs.Sets.{face_in}
use Rattle.gui_font.specs.Walks.{setting}
use Rattle.gui_font.proofs.Inking.{text_inked}
use Rattle.gui_font.proofs.Measuring.{lines_most}
use Rattle.gui_font.proofs.Scanning.{chars_few}
use Rattle.gui_font.proofs.fonts.Fonts.ink_at.Goals as goal

pub lines_inked-requires-clause-few : goal.lines_inked-requires-clause-few
lines_inked-requires-clause-few c = rw c.lines-lines.ensures.runs (lines_most _ (chars c.args.text.now) (chars_few c.args.text.now c.utf8.text c.requires.short))

pub returns : goal.returns
returns c =
    let face = face_in c.args.self.now c.args.look.font in
    let fits : FitsSigned w32 c.args.width = search rules in
    let w = to_z-of_z w32 c.args.width fits in
    c.lines_inked.ensures
    ∙ text_inked face c.args.look (chars c.args.text.now) (nat_of c.args.width) c.args.x c.args.y (setting_of c.lines-lines.result) (runs_left c.lines-lines.result) c.pixels.result _ _
    (c.lines-lines.ensures.setting ∙ ap (λ (z : ℤ). setting face c.args.look (Some (nat_of z))) w)
    (c.lines-lines.ensures.runs ∙ ap (λ (z : ℤ). lines (setting face c.args.look (Some (nat_of z))) (chars c.args.text.now)) w)
    (c.pixels.ensures ∙ ap nat_of w)
    (omega (arith, ints, c.from.ensures))
    (omega (arith, ints, c.from-2.ensures))
