use Rattle.std.proofs.Common.{◌≡◌, ◌∙◌, refl, ap, ℕ, ◌+◌, ◌*◌, ◌/◌, ◌<◌, List, [], length, get_or, slice_index, arith}
use Rattle.gui_base.specs.declared.color.Rgb565.{Rgb565}
use Rattle.gui_color.proofs.Changing.{changed_none, changed_more}
use Rattle.gui_draw.proofs.Turning.{pair_byte}
use Rattle.gui_draw.proofs.texel_rows.cover_colors.Goals as goal

pub loop-i-init : goal.loop-i-init
loop-i-init c = changed_none _ _

pub loop-i-preserved : goal.loop-i-preserved
loop-i-preserved c =
    let bytes = c.args.bytes.now in
    let at = c.args.first + c.loop-i.i in
    let byte = λ (j : ℕ) (l : j < 2).
    ap (λ (pairs : List (List ℕ)). slice_index (get_or pairs at []) j) c.as_chunks.ensures.front
    ∙ pair_byte bytes (length bytes / 2) at j (omega (arith, c.requires, c.loop-i-test.true)) l in
    let high : slice_index (get_or c.as_chunks.result.0.now at []) 0 ≡ slice_index bytes (at * 2) = byte 0 (omega arith) ∙ ap (slice_index bytes) (omega arith) in
    let low = byte 1 (omega arith) in
    let color = λ (n : ℕ). let c : Rgb565 = record { 0 = n } in c in
    changed_more _ c.loop-i.i _ c.loop-i.row (color c.from_be_bytes.result) c.loop-i.invariant (omega (arith, c.loop-i.auto.row, c.loop-i-test.true))
    (ap color (c.from_be_bytes.ensures ∙ rw (high, low) refl))

pub returns : goal.returns
returns c = λ k h. c.loop-i.invariant.done k (omega arith)
