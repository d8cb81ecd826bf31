use Rattle.std.proofs.Common.{◌∙◌, ◌+◌, ◌-◌, ◌/◌, ◌%◌, ◌^◌, ◌==◌, ℕ, Bool, ap, slice_index_or, arith}
use Rattle.gui_base.specs.Color.{black}
use Rattle.gui_color.specs.Masks.{masked}
use Rattle.gui_color.proofs.Rows.{ends_mixed}
use Rattle.gui_color.proofs.masks.mask_ends.Goals as goal

pub returns : goal.returns
returns c =
    let over = λ (t : Bool). masked t c.args.fg c.args.opa in
    let was = c.ends_of-group.result in
    ends_mixed (λ (i : ℕ). over (c.args.byte / 2 ^ (7 - i) % 2 == 1)) c.args.row.now was c.mix_by.new.group c.write_ends.new.row c.requires.short c.ends_of-group.ensures
    (λ k h. c.mix_by.ensures k (omega arith) ∙ ap (λ (t : Bool). over t (slice_index_or was k black)) (c.bits_of_ends.ensures.first k h))
    (λ k h. c.mix_by.ensures (4 + k) (omega arith) ∙ ap (λ (t : Bool). over t (slice_index_or was (4 + k) black)) (c.bits_of_ends.ensures.last k h))
    c.write_ends.ensures.first c.write_ends.ensures.last c.requires.some
