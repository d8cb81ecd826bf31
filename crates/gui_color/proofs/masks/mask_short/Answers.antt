use Rattle.std.proofs.Common.{◌∙◌, ap, rules, arith, Bool, ◌+◌, slice_index_or, if◌then◌else◌}
use Rattle.gui_base.specs.declared.color.Rgb565.{Rgb565}
use Rattle.gui_base.specs.Color.{black}
use Rattle.gui_color.specs.Masks.{mask_bit}
use Rattle.gui_color.proofs.Mixes.{masked_all}
use Rattle.gui_color.proofs.masks.mask_short.Goals as goal

pub returns-then-parts_of-eq-ALL_PARTS : goal.returns-then-parts_of-eq-ALL_PARTS
returns-then-parts_of-eq-ALL_PARTS c = λ k h.
    let below : Rgb565 = slice_index_or c.args.row.now k black in
    c.cover_masked.ensures k h
    ∙ (ap (λ (t : Bool). if t then c.args.fg else below) (c.bits_from-byte.ensures.value k (omega (arith, c.requires.short)))
    ∙ masked_all (mask_bit c.args.bits.now (c.args.first + k)) c.args.fg below c.args.opa (search rules))
