use Rattle.gui_draw.proofs.Common.{◌≢◌, ◌∙◌, ◌<◌, arith, length, below_more, get_or-set_other, get_or-set_same, rules, refl, black}
use Rattle.std.proofs.lemmas.List.{get_or-take}
use Rattle.gui_draw.proofs.texel_rows.mix_read.Goals as goal

pub loop-i-preserved : goal.loop-i-preserved
loop-i-preserved c =
    let i = c.loop-i.i in
    let in_colors : i < length c.loop-i.colors = omega (arith, c.loop-i-test.true, c.requires.few, c.loop-i.invariant.room.0) in
    let in_opas : i < length c.loop-i.opas = omega (arith, c.loop-i-test.true, c.requires.few, c.loop-i.invariant.room.1) in
    record {
      room = search rules;
      colors = below_more _ _ (λ k l. let ne : k ≢ i = omega arith in rw get_or-set_other (c.loop-i.invariant.colors k l)) (rw get_or-set_same c.color_at.ensures);
      opas = below_more _ _ (λ k l. let ne : k ≢ i = omega arith in rw get_or-set_other (c.loop-i.invariant.opas k l)) (rw get_or-set_same c.combine.ensures);
    }

pub returns : goal.returns
returns c = λ k h.
    let n = length c.args.row.now in
    let read : k < c.loop-i.i = omega (arith, h, c.loop-i-test.false) in
    let color = get_or-take n c.loop-i.colors k black h ∙ c.loop-i.invariant.colors k read in
    let opa = get_or-take n c.loop-i.opas k 0 h ∙ c.loop-i.invariant.opas k read in
    c.mix_row.ensures k h ∙ rw (color, opa) refl
