use Rattle.gui_draw.proofs.Common.{◌≡◌, ◌∙◌, refl, ap, pos, ℤ, Some, rect_of, width_of, chars, face_in, arith, ints, w32, to_z}
use Rattle.gui_base.specs.Area.{nat_of}
use Rattle.text_defs.specs.Lines.{lines}
use Rattle.gui_font.specs.LinesLeft.{runs_left, setting_of}
use Rattle.gui_font.specs.Walks.{setting}
use Rattle.gui_font.proofs.Measuring.{lines_most}
use Rattle.gui_font.proofs.Scanning.{chars_few}
use Rattle.gui_draw.proofs.Lining.{text_drawn, text_outside, letters_most, font_there}
use Rattle.gui_draw.proofs.texts.ink.Goals as goal

pub lines-lines-requires-clause-width : goal.lines-lines-requires-clause-width
lines-lines-requires-clause-width g c = λ x e.
    let whole = c.width-whole.ensures in
    let wide = c.requires.wide in
    let cast : to_z w32 c.width-whole.result ≡ pos c.width-whole.result = omega (arith, ints) in
    let is : x ≡ pos c.width-whole.result = cc in
    omega (arith, ints, is)

pub ink_lines-requires-clause-there : goal.ink_lines-requires-clause-there
ink_lines-requires-clause-there g c = font_there c.args.fonts.now.fonts c.args.look.font c.requires.finished

pub ink_lines-requires-clause-lines : goal.ink_lines-requires-clause-lines
ink_lines-requires-clause-lines g c = rw c.lines-lines.ensures.runs (lines_most _ (chars c.args.text.now) (chars_few c.args.text.now c.utf8.text c.requires.short))

pub ink_lines-requires-clause-letters : goal.ink_lines-requires-clause-letters
ink_lines-requires-clause-letters g c =
    let few = chars_few c.args.text.now c.utf8.text c.requires.short in
    rw c.lines-lines.ensures.runs (omega (arith, few, letters_most (setting (face_in c.args.fonts.now c.args.look.font) c.args.look (Some (nat_of (to_z w32 c.width-whole.result)))) (chars c.args.text.now)))

pub returns-in_default : goal.returns-in_default
returns-in_default g c = text_outside _ (rect_of c.args.clip) (rect_of c.args.area) (face_in c.args.fonts.now c.args.look.font) c.args.look (chars c.args.text.now) c.args.fg c.args.opa _ c.in_default.ensures

pub returns-in-Some : goal.returns-in-Some
returns-in-Some g c =
    let face = face_in c.args.fonts.now c.args.look.font in
    let whole = c.width-whole.ensures in
    let wide = c.requires.wide in
    let cast : to_z w32 c.width-whole.result ≡ pos (width_of (rect_of c.args.area)) = omega (arith, ints) in
    text_drawn _ _ (rect_of c.args.clip) (rect_of c.args.area) (rect_of c.in-Some.part) face c.args.look (chars c.args.text.now) c.args.fg c.args.opa _ _ (setting_of c.lines-lines.result) (runs_left c.lines-lines.result) _ _ _ c.in-Some.ensures
    (c.lines-lines.ensures.setting ∙ ap (λ (z : ℤ). setting face c.args.look (Some (nat_of z))) cast)
    (c.lines-lines.ensures.runs ∙ ap (λ (z : ℤ). lines (setting face c.args.look (Some (nat_of z))) (chars c.args.text.now)) cast)
    refl refl refl c.ink_lines.ensures
