use Rattle.std.proofs.Common.{◌+◌, ℕ, arith}
use Rattle.gui_base.specs.declared.color.Rgb565.{Rgb565}
use Rattle.gui_base.specs.Color.{mix}
use Rattle.gui_color.proofs.Rows.{ends_mixed, mapped}
use Rattle.gui_color.proofs.row.blend_ends.Goals as goal

pub returns : goal.returns
returns c =
    let row = c.args.row.now in
    let over = λ (bg : Rgb565). mix c.args.fg bg c.args.opa in
    mapped over row c.write_ends.new.row c.write_ends.auto.row
    (ends_mixed (λ (i : ℕ). over) row c.ends_of-group.result c.mix_one.new.group c.write_ends.new.row c.requires.short c.ends_of-group.ensures
    (λ k h. c.mix_one.ensures k (omega arith)) (λ k h. c.mix_one.ensures (4 + k) (omega arith)) c.write_ends.ensures.first c.write_ends.ensures.last c.requires.some)
