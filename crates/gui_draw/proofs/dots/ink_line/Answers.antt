use Rattle.gui_draw.proofs.Common.{◌≡◌, ◌∙◌, ◌+◌, ℕ, ap, arith, length, rect_of, mask_bit, sum_below, one_if}
use Rattle.gui_draw.proofs.Drawing.{bits_at, bits_long, dots_drawn}
use Rattle.gui_draw.proofs.dots.ink_line.Goals as goal

pub mask_row-requires : goal.mask_row-requires
mask_row-requires g c =
    let long : length (bits_at c.args.dots c.args.line) ≡ c.args.dots.stride = bits_long c.args.dots (rect_of c.args.brush.part) c.args.line c.requires.bits c.requires.has.below in
    let wide = c.requires.bits.columns in
    let len = c.line_mut.ensures.len in
    omega (arith, long, wide, len)

pub returns : goal.returns
returns g c =
    let len = c.line_mut.ensures.len in
    dots_drawn c.args.buf.now (rect_of c.args.brush.part) c.args.line c.mask_row.new.row c.args.dots c.args.brush.fg c.args.brush.opa c.args.steps.now c.tick_bits.new.steps
    c.requires.has c.line_mut.ensures.pixels (c.mask_row.auto.row ∙ len)
    (λ k h. rw c.line_mut.ensures.row at (c.mask_row.ensures k (omega (arith, len))))
    (c.tick_bits.ensures ∙ ap (λ (n : ℕ). c.args.steps.now + sum_below n (λ i. one_if (mask_bit (bits_at c.args.dots c.args.line) (c.args.dots.column + i)))) c.width.ensures)
