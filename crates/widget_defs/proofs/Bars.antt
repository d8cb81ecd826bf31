-- Where the bars of scrollable objects lie.
use Rattle.std.proofs.Common.{◌≡◌, ℕ, ◌+◌, ◌-◌, ◌*◌, ◌/◌, ◌<◌, ◌≤◌, arith, ap, sym, subst, ◌∙◌, ℤ, pos, ◌+ℤ◌, ◌-ℤ◌, ◌≤ℤ◌}
use Rattle.std.specs.Int.{int_max, int_min}
use Rattle.std.proofs.lemmas.Bool.Decides.{nat_tests}
use Rattle.std.proofs.lemmas.Int.{ints}
use Rattle.std.proofs.Math.Nat.{mul-div_cancel}
use Rattle.gui_base.specs.Area.{area_at, width_of, height_of}
use Rattle.widget_defs.specs.Items.{bar_length, bar_start, content_of}
use Rattle.widget_defs.specs.Laws.{FollowsOffset, BarsFollowOffsets}
use Rattle.widget_defs.proofs.Captions.{width-is, height-is}
use Rattle.widget_defs.proofs.Shares.{part-within, part-grows}

-- the first and the last line of a bar that is cut to a place of so many lines
abbrev begins_at : ℤ → ℕ → ℤ
begins_at low start = int_max low (low +ℤ pos start)

abbrev ends_at : ℤ → ℤ → ℕ → ℕ → ℤ
ends_at low high start length = int_min high (((low +ℤ pos start) +ℤ pos length) -ℤ pos 1)

begins-is : (low : ℤ) (start : ℕ) → begins_at low start ≡ low +ℤ pos start
begins-is low start = grind (arith, ints, nat_tests)

ends-is : (low : ℤ) (size start length : ℕ) → start + length ≤ size → ends_at low ((low +ℤ pos size) -ℤ pos 1) start length ≡ (low +ℤ pos (start + length)) -ℤ pos 1
ends-is low size start length fits = grind (arith, ints, nat_tests)

length-within : (size inner reach : ℕ) → bar_length size inner reach ≤ size
length-within size inner reach = omega arith

-- a bar does not end behind its place
fits : (size length reach offset : ℕ) → length ≤ size → offset ≤ reach → bar_start size length reach offset + length ≤ size
fits size length reach offset within moved = let start = part-within (size - length) offset reach moved in omega arith

starts-first : (size length reach : ℕ) → bar_start size length reach 0 ≡ 0
starts-first size length reach = grind arith

starts-last : (size length reach : ℕ) → 0 < reach → length ≤ size → bar_start size length reach reach + length ≡ size
starts-last size length reach some within = let e : bar_start size length reach reach ≡ size - length = mul-div_cancel (size - length) some in omega (arith, e)

-- in a place of so many lines
follows_size : (low : ℤ) (size length reach : ℕ) → 0 < reach → length ≤ size → FollowsOffset low ((low +ℤ pos size) -ℤ pos 1) reach (λ offset. begins_at low (bar_start size length reach offset))
    (λ offset. ends_at low ((low +ℤ pos size) -ℤ pos 1) (bar_start size length reach offset) length)
follows_size low size length reach some within =
    let ends = λ (offset : ℕ) (moved : offset ≤ reach). ends-is low size (bar_start size length reach offset) length (fits size length reach offset within moved) in
    let first = starts-first size length reach in
    record {
      first = begins-is low _ ∙ (ap (λ (n : ℕ). low +ℤ pos n) first ∙ (let e : low +ℤ pos 0 ≡ low = omega (arith, ints) in e));
      last = ends reach (omega arith) ∙ ap (λ (n : ℕ). (low +ℤ pos n) -ℤ pos 1) (starts-last size length reach some within);
      inside = λ offset moved.
          let begin = begins-is low (bar_start size length reach offset) in
          let end = ends offset moved in
          let fit = fits size length reach offset within moved in
          (omega (arith, ints, begin), omega (arith, ints, end, fit));
      as_long = λ offset moved.
          let begin = begins-is low (bar_start size length reach offset) in
          let end = ends offset moved in
          let begin_0 = begins-is low (bar_start size length reach 0) in
          let end_0 = ends 0 (omega arith) in
          omega (arith, ints, begin, end, begin_0, end_0);
      forward = λ less more h moved.
          let grows = part-grows (size - length) less more reach some h in
          omega (arith, ints, begins-is low (bar_start size length reach less), begins-is low (bar_start size length reach more));
    }

-- the same in a place that ends there
follows : (low high : ℤ) (size length reach : ℕ) → high ≡ (low +ℤ pos size) -ℤ pos 1 → 0 < reach → length ≤ size → FollowsOffset low high reach (λ offset. begins_at low (bar_start size length reach offset))
    (λ offset. ends_at low high (bar_start size length reach offset) length)
follows low high size length reach is some within =
    subst (λ (last : ℤ). FollowsOffset low last reach (λ offset. begins_at low (bar_start size length reach offset)) (λ offset. ends_at low last (bar_start size length reach offset) length))
    (sym is) (follows_size low size length reach some within)

pub bars_follow_offsets : BarsFollowOffsets
bars_follow_offsets look x y width height =
    let place = area_at x y width height in
    let w = width-is x y width height in
    let h = height-is x y width height in
    let down = height_of place in
    let across = width_of place in
    let long = bar_length down (height_of (content_of place look.main)) look.reach.1 in
    let wide = bar_length across (width_of (content_of place look.main)) look.reach.0 in
    record {
      right = λ some. follows y place.y2 down long look.reach.1 (ap (λ (n : ℕ). (y +ℤ pos n) -ℤ pos 1) (sym h)) some (length-within down (height_of (content_of place look.main)) look.reach.1);
      right_edge = grind (arith, ints, nat_tests);
      right_width = grind (arith, ints, nat_tests);
      bottom = λ some. follows x place.x2 across wide look.reach.0 (ap (λ (n : ℕ). (x +ℤ pos n) -ℤ pos 1) (sym w)) some (length-within across (width_of (content_of place look.main)) look.reach.0);
      bottom_edge = grind (arith, ints, nat_tests);
      bottom_height = grind (arith, ints, nat_tests);
    }
