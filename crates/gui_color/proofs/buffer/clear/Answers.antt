use Rattle.std.proofs.Common.{◌≡◌, ◌∙◌, ℕ, ◌*◌, ◌<◌, ◌≤◌, sym, List, length, replicate, slice_index_or, arith}
use Rattle.std.proofs.lemmas.Grind.{div_ceil_times}
use Rattle.std.proofs.lemmas.List.{ext_get_or, get_or-replicate, length-replicate}
use Rattle.gui_base.specs.Color.{black}
use Rattle.gui_base.specs.declared.color.Rgb565.{Rgb565}
use Rattle.gui_color.proofs.buffer.clear.Goals as goal

cleared : (row : List Rgb565) (n len : ℕ) → length row ≡ len → len ≤ n → ((k : ℕ) → k < n → slice_index_or row k black ≡ black) → row ≡ replicate len black
cleared row n len long past each =
    ext_get_or black row (replicate len black) (long ∙ sym (length-replicate len black))
    (λ k below. each k (omega arith) ∙ sym (get_or-replicate len k black black (omega arith)))

pub returns-clause-black : goal.returns-clause-black
returns-clause-black g c =
    let len = length c.args.row.now in
    let past = (div_ceil_times len 512 (omega arith)).0 in
    cleared c.loop-i.row (c.loop-i.i * 512) len c.loop-i.auto.row (omega (arith, past, c.div_ceil-i-end.ensures)) c.loop-i.invariant.black
