-- The panel of the limits consists of whole blocks.
use Rattle.std.proofs.Common.{◌≡◌, subst, sym, ℕ, zero, suc, ◌*◌, ◌/◌, ◌%◌, ◌≤◌, pos, ◌+ℤ◌, ◌-ℤ◌, false, refl, arith}
use Rattle.std.proofs.Math.Nat.{mul-le-mul_left, mul-le-mul_right}
use Rattle.std.proofs.lemmas.Int.{ints}
use Rattle.std.proofs.lemmas.Nat.{div-add-mod'}
use Rattle.gui_base.specs.Area.{is_empty, area_at, count_between, width_of, height_of}
use Rattle.gui_base.specs.Bounded.{bounds_of}
use Rattle.gui_base.specs.Grids.{IsGridded}
use Rattle.gui_base.specs.Limits.{panel_in}
use Rattle.gui_base.specs.declared.limits.Limits.{Limits}

span : (n : ℕ) → count_between (pos 0) ((pos 0 +ℤ pos n) -ℤ pos 1) ≡ n
span n = grind (arith, ints)

-- an area at 0 0 has as many pixels from side to side, and as many lines, as are asked for
pub width_at : (w h : ℕ) → width_of (area_at (pos 0) (pos 0) w h) ≡ w
width_at w h = span w

pub height_at : (w h : ℕ) → height_of (area_at (pos 0) (pos 0) w h) ≡ h
height_at w h = span h

some_at : (w h : ℕ) → 1 ≤ w → 1 ≤ h → is_empty (area_at (pos 0) (pos 0) w h) ≡ false
some_at w h a b = grind (arith, ints)

-- one row of blocks has no more lines than the draw buffer
blocks_within : (lines h : ℕ) → 1 ≤ lines → lines % h ≡ 0 → h ≤ lines
blocks_within lines h some whole = go (lines / h) (omega (arith, div-add-mod' lines h, whole)) where
  go : (q : ℕ) → q * h ≡ lines → h ≤ lines
  go zero e = absurd (omega arith)
  go (suc q) e =
      let one : 1 ≤ suc q = omega arith in
      let more = mul-le-mul_right h one in
      omega (arith, more)

pub row_within : (limits : Limits) → limits.width * limits.block.h ≤ limits.width * limits.lines
row_within limits = mul-le-mul_left limits.width (blocks_within limits.lines limits.block.h limits.panel.some_lines limits.blocks.lined)

pub limits_gridded : (limits : Limits) → IsGridded (bounds_of limits).block (panel_in (bounds_of limits))
limits_gridded limits = record {
  sizes = limits.block.sizes;
  whole = record {
    left = refl;
    top = refl;
    some = some_at limits.width limits.height limits.panel.some_width limits.panel.some_height;
    wide = subst (λ (n : ℕ). n % limits.block.w ≡ 0) (sym (width_at limits.width limits.height)) limits.blocks.wide;
    high = subst (λ (n : ℕ). n % limits.block.h ≡ 0) (sym (height_at limits.width limits.height)) limits.blocks.high;
  };
}
