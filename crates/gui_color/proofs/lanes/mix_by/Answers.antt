use Rattle.std.proofs.Common.{◌≡◌, ◌∙◌, ◌-◌, ◌/◌, ◌%◌, ◌^◌, ◌==◌, ℕ, slice_index, slice_index_or, ap, rules}
use Rattle.std.proofs.lemmas.List.{get_or-replicate}
use Rattle.gui_base.specs.Color.{mix, parts, black}
use Rattle.gui_color.proofs.Kernel.{rgb, chosen_opaque, chosen_opacity}
use Rattle.gui_color.proofs.lanes.mix_by.Goals as goal

pub returns-then-parts_of-eq-ALL_PARTS : goal.returns-then-parts_of-eq-ALL_PARTS
returns-then-parts_of-eq-ALL_PARTS c k h =
    let all : parts c.args.opa ≡ 32 = search rules in
    c.write_lanes.ensures k h
    ∙ (ap rgb (c.choose_by.ensures k h)
    ∙ chosen_opaque (c.args.byte / 2 ^ (7 - k) % 2 == 1) c.args.fg (slice_index_or c.args.group.now k black) c.args.opa _ _ all
    (ap rgb (get_or-replicate 8 k c.args.fg.0 0 h)) (c.lanes_of.ensures k h))

pub returns-else-parts_of-eq-ALL_PARTS : goal.returns-else-parts_of-eq-ALL_PARTS
returns-else-parts_of-eq-ALL_PARTS c k h =
    let below = slice_index_or c.args.group.now k black in
    let opas = c.choose_by-else-parts_of-eq-ALL_PARTS in
    c.mix_group.ensures k h
    ∙ ap (λ (n : ℕ). mix (rgb n) below (slice_index opas.result k)) (get_or-replicate 8 k c.args.fg.0 0 h)
    ∙ ap (mix c.args.fg below) (opas.ensures k h)
    ∙ (rw (get_or-replicate 8 k c.args.opa 0 h, get_or-replicate {A = ℕ} 8 k 0 0 h) (chosen_opacity (c.args.byte / 2 ^ (7 - k) % 2 == 1) c.args.fg below c.args.opa))
