-- Content areas lie near places, and parts of them within the coordinates of areas.
use Rattle.std.proofs.Common.{◌≡◌, ◌⊎◌, inl, inr, refl, ℕ, ◌+◌, ◌-◌, ◌≤◌, arith, ℤ, pos, negsuc, ◌+ℤ◌, ◌-ℤ◌, ◌<ℤ◌, w32, to_z, of_z}
use Rattle.std.proofs.lemmas.Int.{ints}
use Rattle.gui_base.specs.Area.{nat_of, count_between}
use Rattle.gui_widgets.specs.Nears.{IsPlaced, IsNear, Reaches}

of_int : (z : ℤ) → (pos (nat_of z) ≡ z) ⊎ ((nat_of z ≡ 0) × (z <ℤ pos 0))
of_int (pos n) = inl refl
of_int (negsuc n) = inr (refl, omega (arith, ints))

-- how many numbers there are from one to another: so many as they differ and one, or none
pub spread : (low high : ℤ) → (pos (count_between low high) ≡ (high -ℤ low) +ℤ pos 1) ⊎ ((count_between low high ≡ 0) × (((high -ℤ low) +ℤ pos 1) <ℤ pos 0))
spread low high = of_int ((high -ℤ low) +ℤ pos 1)

module _ (low high : ℤ) (first : IsPlaced low) (last : IsPlaced high) (a b n : ℕ) (few : a ≤ 1100) (some : b ≤ 1100) (is : n ≡ count_between low high - (a + b)) where
  pub content-reaches : Reaches low (a + n)
  content-reaches =
      elim (spread low high) [
        | inl more ↦ omega (arith, ints)
        | inr none ↦ omega (arith, ints)
      ]

  pub content-starts : IsNear (low +ℤ pos a)
  content-starts = omega (arith, ints)

  pub content-ends : IsNear (((low +ℤ pos a) +ℤ pos n) -ℤ pos 1)
  content-ends =
      elim (spread low high) [
        | inl more ↦ omega (arith, ints)
        | inr none ↦ omega (arith, ints)
      ]

-- so many pixels from the first side of a content area on: no more than it has, or few
pub part-reaches : (low high : ℤ) (n : ℕ) → IsNear low → IsNear high → n ≤ count_between low high → Reaches low n
part-reaches low high n first last most =
    elim (spread low high) [
      | inl more ↦ omega (arith, ints)
      | inr none ↦ omega (arith, ints)
    ]

pub few-reach : (low : ℤ) (n : ℕ) → IsNear low → n ≤ 1000000 → Reaches low n
few-reach low n first few = omega (arith, ints)

-- coordinates, as they are read
pub read : (z : ℤ) → IsPlaced z → to_z w32 (of_z w32 z) ≡ z
read z placed = omega (arith, ints)

pub read-before : (z : ℤ) → IsPlaced z → to_z w32 (of_z w32 (z -ℤ pos 3)) ≡ z -ℤ pos 3
read-before z placed = omega (arith, ints)

pub read-moved : (z : ℤ) (n : ℕ) → Reaches z n → to_z w32 (of_z w32 (z +ℤ pos n)) ≡ z +ℤ pos n
read-moved z n reaches = omega (arith, ints)

-- so many pixels of a place from so far on
module _ (low high : ℤ) (first : IsPlaced low) (last : IsPlaced high) (start n : ℕ) (within : start + n ≤ count_between low high) where
  pub start-reaches : Reaches low start
  start-reaches =
      elim (spread low high) [
        | inl more ↦ omega (arith, ints)
        | inr none ↦ omega (arith, ints)
      ]

  pub rest-reaches : Reaches (low +ℤ pos start) n
  rest-reaches =
      elim (spread low high) [
        | inl more ↦ omega (arith, ints)
        | inr none ↦ omega (arith, ints)
      ]
