use Rattle.std.proofs.Common.{◌∙◌, ◌≡◌, ap, ℕ, ◌-◌, List, length, drop, slice_index_or, arith}
use Rattle.gui_base.specs.declared.color.Rgb565.{Rgb565}
use Rattle.gui_base.specs.Color.{mix, black}
use Rattle.gui_color.proofs.Rows.{last_mixed, mapped}
use Rattle.gui_color.proofs.row.blend_row.Goals as goal

pub returns-in-Some : goal.returns-in-Some
returns-in-Some c =
    let row = c.args.row.now in
    let over = λ (bg : Rgb565). mix c.args.fg bg c.args.opa in
    let was : c.in-Some.last.now ≡ drop (length row - 8) row = c.in-Some.ensures.cases.1.same in
    mapped over row c.write_last.new.row (omega (arith, c.write_last.auto.row, c.blend_groups.auto.row))
    (λ k h. ap (λ (colors : List Rgb565). slice_index_or colors k black) c.write_last.ensures
    ∙ last_mixed (λ (i : ℕ). over) row c.blend_groups.new.row c.mix_one.new.group c.in-Some.ensures.cases.0 c.blend_groups.auto.row (omega (arith, c.mix_one.auto.group, c.in-Some.ensures.cases.1.long, ap (λ (colors : List Rgb565). length colors) was)) c.blend_groups.ensures
    (λ j i. c.mix_one.ensures j i ∙ ap (λ (colors : List Rgb565). over (slice_index_or colors j black)) was) k h)

pub returns-in-Some-2 : goal.returns-in-Some-2
returns-in-Some-2 c =
    mapped (λ (bg : Rgb565). mix c.args.fg bg c.args.opa) c.args.row.now c.blend_groups-in-Some-2.new.row c.blend_groups-in-Some-2.auto.row
    (λ k h. c.blend_groups-in-Some-2.ensures k (omega arith))
