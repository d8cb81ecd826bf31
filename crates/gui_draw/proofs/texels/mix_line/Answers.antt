use Rattle.gui_draw.proofs.Common.{◌∙◌, ◌+◌, ℕ, ap, arith, refl, rect_of}
use Rattle.gui_draw.proofs.Picturing.{texels_drawn, texel_row}
use Rattle.gui_draw.proofs.texels.mix_line.Goals as goal

pub mix_texels-requires : goal.mix_texels-requires
mix_texels-requires g c = texel_row c.args.texels (rect_of c.args.part) c.args.line _ c.requires.texels c.requires.has.below c.line_mut.ensures.len

pub returns : goal.returns
returns g c =
    let len = c.line_mut.ensures.len in
    texels_drawn c.args.buf.now (rect_of c.args.part) c.args.line c.mix_texels.new.row c.args.texels c.args.steps.now c.tick_times.new.steps (c.args.texels.row + c.args.line) refl
    c.requires.has c.line_mut.ensures.pixels (c.mix_texels.auto.row ∙ len)
    (λ k h. rw c.line_mut.ensures.row at (c.mix_texels.ensures k (omega (arith, len))))
    (c.tick_times.ensures ∙ ap (λ (n : ℕ). c.args.steps.now + n) c.width.ensures)
