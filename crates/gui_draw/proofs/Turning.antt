-- Bytes in pairs.
use Rattle.std.proofs.Common.{◌≡◌, ◌∙◌, ap, ℕ, zero, suc, ◌+◌, ◌*◌, ◌<◌, List, [], drop, get_or, slice_index, arith}
use Rattle.std.specs.Simd.{first_chunks}
use Rattle.std.proofs.lemmas.List.{get_or-take, get_or-drop}

-- byte j of pair i
pub pair_byte : (bytes : List ℕ) (n i j : ℕ) → i < n → j < 2 → slice_index (get_or (first_chunks 2 n bytes) i []) j ≡ slice_index bytes (i * 2 + j)
pair_byte bytes zero i j h l = absurd (omega arith)
pair_byte bytes (suc n) zero j h l =
    let same : j ≡ 0 * 2 + j = omega arith in
    get_or-take 2 bytes j 0 l ∙ ap (slice_index bytes) same
pair_byte bytes (suc n) (suc i) j h l =
    let same : 2 + (i * 2 + j) ≡ suc i * 2 + j = omega arith in
    pair_byte (drop 2 bytes) n i j (omega arith) l
    ∙ (get_or-drop 2 bytes (i * 2 + j) 0 ∙ ap (slice_index bytes) same)
