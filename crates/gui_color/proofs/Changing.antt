-- Rows of pixels that are changed one by one.
use Rattle.std.proofs.Common.{◌≡◌, ◌≢◌, ◌∙◌, refl, ap, ℕ, ◌+◌, ◌<◌, ◌≤◌, List, length, slice_index_or, set, below_more, arith, get_or-set_other, get_or-set_same}
use Rattle.gui_base.specs.Color.{black}
use Rattle.gui_base.specs.declared.color.Rgb565.{Rgb565}

-- the first n pixels of a row were changed, and the others are as they were
pub record Changed (change : ℕ → Rgb565 → Rgb565) (n : ℕ) (old new : List Rgb565) : Type 0 where
  pub done : (k : ℕ) → k < n → slice_index_or new k black ≡ change k (slice_index_or old k black)
  pub left : (k : ℕ) → n ≤ k → slice_index_or new k black ≡ slice_index_or old k black

pub changed_none : (change : ℕ → Rgb565 → Rgb565) (row : List Rgb565) → Changed change 0 row row
changed_none change row = record { done = λ k h. absurd (omega arith); left = λ k h. refl }

pub changed_more : (change : ℕ → Rgb565 → Rgb565) (n : ℕ) (old new : List Rgb565) (c : Rgb565) → Changed change n old new → n < length new →
    c ≡ change n (slice_index_or new n black) → Changed change (n + 1) old (set new n c)
changed_more change n old new c h below is = record {
  done = below_more _ _ (λ k l. let ne : k ≢ n = omega arith in rw get_or-set_other (h.done k l))
      (rw get_or-set_same (is ∙ ap (change n) (h.left n (omega arith))));
  left = λ k l. let ne : k ≢ n = omega arith in rw get_or-set_other (h.left k (omega arith));
}
