use Rattle.std.proofs.Common.{ap₂, w64, ◌-ℤ◌, ℤ}
use Rattle.std.proofs.lemmas.Int.{to_z-of_z}
use Rattle.bdf_font.proofs.Fitting.{near_fits, near_apart}
use Rattle.bdf_font.proofs.characters.top_of.Goals as goal

pub overflow_sub-result : goal.overflow_sub-result
overflow_sub-result c =
    rw (to_z-of_z w64 c.head_of.result (near_fits _ c.head_of.ensures.near), to_z-of_z w64 c.head_of-2.result (near_fits _ c.head_of-2.ensures.near))
    (near_apart _ _ c.head_of.ensures.near c.head_of-2.ensures.near)

pub returns : goal.returns
returns c =
    rw (
      to_z-of_z w64 c.head_of.result (near_fits _ c.head_of.ensures.near),
      to_z-of_z w64 c.head_of-2.result (near_fits _ c.head_of-2.ensures.near),
      to_z-of_z w64 (c.head_of.result -ℤ c.head_of-2.result) (near_apart _ _ c.head_of.ensures.near c.head_of-2.ensures.near),
    )
    (ap₂ (λ (a b : ℤ). a -ℤ b) c.head_of.ensures.value c.head_of-2.ensures.value)
