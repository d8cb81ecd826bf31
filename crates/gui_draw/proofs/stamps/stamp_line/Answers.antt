use Rattle.gui_draw.proofs.Common.{◌∙◌, rect_of}
use Rattle.gui_draw.proofs.Stamping.{line_stamped}
use Rattle.gui_draw.proofs.stamps.stamp_line.Goals as goal

pub ink_dots-requires-clause-wide : goal.ink_dots-requires-clause-wide
ink_dots-requires-clause-wide g c = c.line_mut.ensures.len ∙ c.requires.wide

pub returns : goal.returns
returns g c =
    line_stamped c.args.c c.requires.code c.args.buf.now (rect_of c.args.stamp.part) c.args.first c.args.line c.ink_dots.new.row c.args.stamp.fg c.args.stamp.opa c.args.steps.now c.tick_dots.new.steps c.requires.wide c.requires.row c.requires.has c.line_mut.ensures.pixels
    (c.ink_dots.auto.row ∙ c.line_mut.ensures.len)
    (λ k h. rw c.line_mut.ensures.row at (c.ink_dots.ensures k h))
    c.tick_dots.ensures
