use Rattle.std.proofs.Common.{◌≡◌, ◌∙◌, ap, ℕ, ◌+◌, ◌-◌, List, length, drop, slice_index_or, rules, arith}
use Rattle.gui_base.specs.declared.color.Rgb565.{Rgb565}
use Rattle.gui_base.specs.Color.{parts, black}
use Rattle.gui_color.specs.Masks.{mask_bit, masked}
use Rattle.gui_color.proofs.Mixes.{masked_none}
use Rattle.gui_color.proofs.Rows.{last_mixed}
use Rattle.gui_color.proofs.masks.mask_row.Goals as goal

pub returns-then-parts_of-eq0 : goal.returns-then-parts_of-eq0
returns-then-parts_of-eq0 c =
    let none : parts c.args.opa ≡ 0 = search rules in
    λ k h. masked_none (mask_bit c.args.bits.now (c.args.first + k)) c.args.fg (slice_index_or c.args.row.now k black) c.args.opa none

pub returns-in-Some : goal.returns-in-Some
returns-in-Some c =
    let row = c.args.row.now in
    let over = λ (i : ℕ). masked (mask_bit c.args.bits.now (c.args.first + i)) c.args.fg c.args.opa in
    let was : c.in-Some.last.now ≡ drop (length row - 8) row = c.in-Some.ensures.cases.1.same in
    λ k h. ap (λ (colors : List Rgb565). slice_index_or colors k black) c.write_last.ensures
    ∙ last_mixed over row c.mask_groups.new.row c.mix_masked.new.group c.in-Some.ensures.cases.0 c.mask_groups.auto.row (omega (arith, c.mix_masked.auto.group, c.in-Some.ensures.cases.1.long, ap (λ (colors : List Rgb565). length colors) was)) c.mask_groups.ensures
    (λ j i. c.mix_masked.ensures j i ∙ (ap (λ (i : ℕ). masked (mask_bit c.args.bits.now i) c.args.fg c.args.opa (slice_index_or c.in-Some.last.now j black)) (omega (arith, c.in-Some.ensures.cases.0))
    ∙ ap (λ (colors : List Rgb565). over (length row - 8 + j) (slice_index_or colors j black)) was)) k h
