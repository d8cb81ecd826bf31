-- Whole blocks are a rounding.
use Rattle.std.proofs.Common.{◌≡◌, ◌∙◌, refl, sym, ap, subst, ℕ, zero, suc, ◌+◌, ◌-◌, ◌*◌, ◌/◌, ◌%◌, ◌<◌, ◌≤◌, ℤ, pos, negsuc, ◌+ℤ◌, ◌-ℤ◌, ◌≤ℤ◌, true, arith}
use Rattle.std.proofs.Math.Nat.{div-mul-le_self, lt-div-mul-add, mul-div_cancel, mul-le-mul_right, div-lt_iff_lt-mul, mod-one}
use Rattle.std.proofs.lemmas.Nat.{div-mul-add, div-add-mod'}
use Rattle.std.proofs.lemmas.Int.{ints}
use Rattle.gui_base.specs.Area.{Rect, IsCoordinate, nat_of, count_between, is_within}
use Rattle.gui_base.specs.Corners.{rect_of}
use Rattle.gui_base.specs.Gridded.{PixelsWidenNothing}
use Rattle.gui_base.specs.Grids.{HasBlocks, IsBlock, BlockSize, IsGridded, one_pixel, block_start, block_end, in_blocks, blocks_of, grid_over}
use Rattle.gui_base.specs.Lines.{top_lines, lines_below}
use Rattle.gui_base.specs.Rounding.{IsRounding, IsRound}
use Rattle.gui_base.proofs.Areas.{corners_around}
use Rattle.gui_base.proofs.Insides.{Inside, inside_of, of_inside}

end_least : (size n : ℕ) → 1 ≤ size → n ≤ block_end size n
end_least size n some = omega (arith, lt-div-mul-add {a = n} {b = size} (omega arith))

-- a block ends before the next multiple of its size
end_within : (size n k : ℕ) → 1 ≤ size → n < k * size → block_end size n < k * size
end_within size n k some below =
    let block : n / size < k = (div-lt_iff_lt-mul {k = size} {x = n} {y = k} (omega arith)).1 below in
    let more : n / size + 1 ≤ k = omega arith in
    let next = mul-le-mul_right size more in
    omega (arith, next)

-- a number at which a block begins, or ends, stays
start_stays : (size k : ℕ) → 1 ≤ size → block_start size (k * size) ≡ k * size
start_stays size k some = ap (λ (n : ℕ). n * size) (mul-div_cancel k (omega arith))

end_stays : (size k : ℕ) → 1 ≤ size → block_end size (k * size + (size - 1)) ≡ k * size + (size - 1)
end_stays size k some = ap (λ (n : ℕ). n * size + (size - 1)) (div-mul-add k size (size - 1) (omega arith))

start_at : (size k : ℕ) (z : ℤ) → 1 ≤ size → z ≡ pos (k * size) → pos (block_start size (nat_of z)) ≡ z
start_at size k z some e = ap (λ (y : ℤ). pos (block_start size (nat_of y))) e ∙ (ap pos (start_stays size k some) ∙ sym e)

end_at : (size k : ℕ) (z : ℤ) → 1 ≤ size → z ≡ pos (k * size + (size - 1)) → pos (block_end size (nat_of z)) ≡ z
end_at size k z some e = ap (λ (y : ℤ). pos (block_end size (nat_of y))) e ∙ (ap pos (end_stays size k some) ∙ sym e)

-- the blocks from the one of a number to that of another hold both, and lie in the panel
record Spans (low high first last : ℤ) (size : ℕ) : Type 0 where
  left : low ≤ℤ pos (block_start size (nat_of first))
  before : pos (block_start size (nat_of first)) ≤ℤ first
  after : last ≤ℤ pos (block_end size (nat_of last))
  right : pos (block_end size (nat_of last)) ≤ℤ high

count_from : (m : ℕ) → count_between (pos 0) (pos m) ≡ m + 1
count_from m = same ((pos m -ℤ pos 0) +ℤ pos 1) (m + 1) (omega (arith, ints)) where
  same : (z : ℤ) (n : ℕ) → z ≡ pos n → nat_of z ≡ n
  same z n e = ap nat_of e

spans : (size : ℕ) (low high first last : ℤ) → 1 ≤ size → low ≡ pos 0 → count_between low high % size ≡ 0 → low ≤ℤ first → first ≤ℤ last → last ≤ℤ high → Spans low high first last size
spans size low high (negsuc f) last some zero_low whole a b c = absurd (omega (arith, ints))
spans size low high (pos f) (negsuc l) some zero_low whole a b c = absurd (omega (arith, ints))
spans size low (negsuc m) (pos f) (pos l) some zero_low whole a b c = absurd (omega (arith, ints))
spans size low (pos m) (pos f) (pos l) some zero_low whole a b c =
    let count = ap (λ (z : ℤ). count_between z (pos m)) zero_low ∙ count_from m in
    let all : (m + 1) / size * size ≡ m + 1 = omega (arith, div-add-mod' (m + 1) size, subst (λ (n : ℕ). n % size ≡ 0) count whole) in
    let below : l < (m + 1) / size * size = omega (arith, ints, all) in
    let right = end_within size l ((m + 1) / size) some below in
    record {
      left = omega (arith, ints);
      before = let most = div-mul-le_self f size in omega (arith, ints, most);
      after = let least = end_least size l some in omega (arith, ints, least);
      right = omega (arith, ints, right, all);
    }

module _ (w h : ℕ) (panel : Rect) (block : IsBlock w h) (whole : HasBlocks w h panel) where
  across : (area : Rect) → Inside panel area → Spans panel.x1 panel.x2 area.x1 area.x2 w
  across area i = spans w panel.x1 panel.x2 area.x1 area.x2 block.some_width whole.left whole.wide i.around.left i.across i.around.right

  down : (area : Rect) → Inside panel area → Spans panel.y1 panel.y2 area.y1 area.y2 h
  down area i = spans h panel.y1 panel.y2 area.y1 area.y2 block.some_height whole.top whole.high i.around.top i.down i.around.bottom

  rounded_inside : (area : Rect) → is_within panel area ≡ true → is_within panel (in_blocks w h area) ≡ true
  rounded_inside area given =
      let i = inside_of panel area given in
      let a = across area i in
      let d = down area i in
      of_inside panel (in_blocks w h area) (record {
        across = omega (arith, ints, a.before, a.after, i.across);
        down = omega (arith, ints, d.before, d.after, i.down);
        around = record { left = a.left; right = a.right; top = d.left; bottom = d.right };
      })

  same_x : (area : Rect) → IsRound (blocks_of w h panel) area → (y1 y2 : ℤ) → pos (block_start h (nat_of y1)) ≡ y1 → pos (block_end h (nat_of y2)) ≡ y2 →
      IsRound (blocks_of w h panel) (record area { y1 = y1; y2 = y2 })
  same_x area round y1 y2 top bottom =
      ap (λ (y : ℤ). record (in_blocks w h area) { y1 = y; y2 = pos (block_end h (nat_of y2)) }) top
      ∙ (ap (λ (y : ℤ). record (in_blocks w h area) { y1 = y1; y2 = y }) bottom ∙ ap (λ (r : Rect). record r { y1 = y1; y2 = y2 }) round)

  first_line : (area : Rect) → IsRound (blocks_of w h panel) area → area.y1 ≡ pos (nat_of area.y1 / h * h)
  first_line area round = sym (ap (λ (r : Rect). r.y1) round)

  top_round : (area : Rect) (steps : ℕ) → IsRound (blocks_of w h panel) area → 0 < steps → IsRound (blocks_of w h panel) (top_lines area (steps * h))
  top_round area zero round few = absurd (omega arith)
  top_round area (suc s) round few =
      let some = block.some_height in
      let a = nat_of area.y1 / h in
      let first : area.y1 ≡ pos (a * h) = first_line area round in
      same_x area round area.y1 ((area.y1 +ℤ pos (suc s * h)) -ℤ pos 1) (start_at h a area.y1 some first) (end_at h (a + s) _ some (omega (arith, ints, first)))

  below_round : (area : Rect) (steps : ℕ) → IsRound (blocks_of w h panel) area → IsRound (blocks_of w h panel) (lines_below area (steps * h))
  below_round area steps round =
      let some = block.some_height in
      let a = nat_of area.y1 / h in
      let first : area.y1 ≡ pos (a * h) = first_line area round in
      same_x area round (area.y1 +ℤ pos (steps * h)) area.y2 (start_at h (a + steps) _ some (omega (arith, ints, first))) (ap (λ (r : Rect). r.y2) round)

  pub blocks_sound : IsRounding (blocks_of w h panel)
  blocks_sound = record {
    some = whole.some;
    least = block.some_height;
    inside = rounded_inside;
    holds = λ area given.
        let i = inside_of panel area given in
        let a = across area i in
        let d = down area i in
        corners_around (in_blocks w h area) area (record { left = a.before; right = a.after; top = d.before; bottom = d.after });
    again = λ area given.
        let x1 = start_stays w (nat_of area.x1 / w) block.some_width in
        let y1 = start_stays h (nat_of area.y1 / h) block.some_height in
        let x2 = end_stays w (nat_of area.x2 / w) block.some_width in
        let y2 = end_stays h (nat_of area.y2 / h) block.some_height in
        rw (x1, y1, x2, y2) refl;
    cut = λ area steps given round some few. (top_round area steps round some, below_round area steps round);
  }

-- so is the grid of a panel that consists of whole blocks
pub gridded_sound : (block : BlockSize) (panel : Rect) → IsGridded block panel → IsRounding (grid_over block panel)
gridded_sound block panel h = blocks_sound block.w block.h panel h.sizes h.whole

-- an area of a panel that begins at 0 0 has no pixel left of it or above
pub not_negative : (panel area : Rect) → panel.x1 ≡ pos 0 → panel.y1 ≡ pos 0 → is_within panel area ≡ true →
    ((pos 0 ≤ℤ area.x1) × (pos 0 ≤ℤ area.y1)) × ((pos 0 ≤ℤ area.x2) × (pos 0 ≤ℤ area.y2))
not_negative panel area left top given =
    let i = inside_of panel area given in
    let a = i.around in
    let x : pos 0 ≤ℤ area.x1 = omega (arith, ints, left, a.left) in
    let y : pos 0 ≤ℤ area.y1 = omega (arith, ints, top, a.top) in
    ((x, y), (omega (arith, ints, x, i.across), omega (arith, ints, y, i.down)))

-- the last pixel of the widened area is one of the panel, so its place is a coordinate
pub blocks_fit : (w h : ℕ) (panel area : Rect) → IsRounding (blocks_of w h panel) → IsCoordinate panel.x2 → IsCoordinate panel.y2 → is_within panel area ≡ true →
    IsCoordinate (pos (block_end w (nat_of area.x2))) × IsCoordinate (pos (block_end h (nat_of area.y2)))
blocks_fit w h panel area sound right bottom given =
    let a = (inside_of panel (in_blocks w h area) (sound.inside area given)).around in
    let x = right.1 in
    let y = bottom.1 in
    ((omega (arith, ints), omega (arith, ints, x, a.right)), (omega (arith, ints), omega (arith, ints, y, a.bottom)))

-- a block of a single pixel holds that alone
single : (n : ℕ) → n / 1 * 1 ≡ n
single n = omega (arith, div-add-mod' n 1, mod-one n)

single_start : (z : ℤ) → pos 0 ≤ℤ z → pos (block_start 1 (nat_of z)) ≡ z
single_start (pos n) h = ap pos (single n)
single_start (negsuc n) h = absurd (omega (arith, ints))

single_end : (z : ℤ) → pos 0 ≤ℤ z → pos (block_end 1 (nat_of z)) ≡ z
single_end (pos n) h = ap pos (omega (arith, single n))
single_end (negsuc n) h = absurd (omega (arith, ints))

-- so each area of a panel is its own rounding
pixels_round : (w h : ℕ) (panel area : Rect) → w ≡ 1 → h ≡ 1 → panel.x1 ≡ pos 0 → panel.y1 ≡ pos 0 → is_within panel area ≡ true → in_blocks w h area ≡ area
pixels_round w h panel area one_wide one_high left top given =
    let n = not_negative panel area left top given in
    rw (one_wide, one_high, single_start area.x1 n.0.0, single_start area.y1 n.0.1, single_end area.x2 n.1.0, single_end area.y2 n.1.1) refl

pub pixels_widen : PixelsWidenNothing
pixels_widen grid pixels area inside =
    pixels_round grid.block.w grid.block.h (rect_of grid.panel) area (ap (λ (b : BlockSize). b.w) pixels) (ap (λ (b : BlockSize). b.h) pixels) grid.whole.left grid.whole.top inside

-- the same of the grid of a panel at 0 0
pub one_pixel_round : (block : BlockSize) (panel area : Rect) → block ≡ one_pixel → panel.x1 ≡ pos 0 → panel.y1 ≡ pos 0 → is_within panel area ≡ true → IsRound (grid_over block panel) area
one_pixel_round block panel area one left top given = pixels_round block.w block.h panel area (ap (λ (b : BlockSize). b.w) one) (ap (λ (b : BlockSize). b.h) one) left top given
