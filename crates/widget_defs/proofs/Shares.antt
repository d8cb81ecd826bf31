-- Shares of bars, and where knobs stand.
use Rattle.std.proofs.Common.{refl, ◌≡◌, ℕ, ◌-◌, ◌*◌, ◌/◌, ◌<◌, ◌≤◌, ap, ◌∙◌, arith, ℤ, pos, negsuc, ◌-ℤ◌, ◌≤ℤ◌}
use Rattle.std.specs.Int.RustNames.{unsigned_abs}
use Rattle.std.proofs.lemmas.Bool.Decides.{nat_tests}
use Rattle.std.proofs.lemmas.Int.{ints}
use Rattle.std.proofs.Math.Nat.{div-le_of_le-mul, mul-div_cancel, div-mul-le_self, mul-le-mul_left, le-div_iff_mul-le}
use Rattle.gui_base.specs.Area.{area_at, width_of}
use Rattle.widget_defs.specs.Looks.{Look, IsRanged, number_of}
use Rattle.widget_defs.specs.Items.{share_of, knob_side}
use Rattle.widget_defs.specs.Laws.{SharesFollowValues, KnobsStayInside}
use Rattle.widget_defs.proofs.Captions.{width-is, height-is}

not_below : (z : ℤ) → pos 0 ≤ℤ z → pos (unsigned_abs z) ≡ z
not_below (pos n) h = refl
not_below (negsuc n) h = absurd (omega (arith, ints))

-- how far a number lies above another
pub above : (a b : ℤ) → b ≤ℤ a → pos (number_of (a -ℤ b)) ≡ a -ℤ b
above a b h = not_below (a -ℤ b) (omega (arith, ints))

pub part-within : (n d all : ℕ) → d ≤ all → n * d / all ≤ n
part-within n d all h = div-le_of_le-mul all (let m = mul-le-mul_left n h in omega arith)

pub part-grows : (n d e all : ℕ) → 0 < all → d ≤ e → n * d / all ≤ n * e / all
part-grows n d e all some h =
    (le-div_iff_mul-le some).1 (let m = mul-le-mul_left n h in let below = div-mul-le_self (n * d) all in omega arith)

module _ (look : Look) (ranged : IsRanged look) where
  abbrev all : ℕ
  all = number_of (look.max -ℤ look.min)

  some : 0 < all
  some = let ends = ranged.ends in let is = above look.max look.min (omega (arith, ints)) in omega (arith, ints)

  part : number_of (look.value -ℤ look.min) ≤ all
  part =
      let ends = ranged.ends in let low = ranged.low in let high = ranged.high in
      let whole = above look.max look.min (omega (arith, ints)) in
      let here = above look.value look.min low in
      omega (arith, ints)

  pub share-within : (n : ℕ) → share_of look n ≤ n
  share-within n = part-within n (number_of (look.value -ℤ look.min)) all part

  later : (value : ℤ) → look.value ≤ℤ value → number_of (look.value -ℤ look.min) ≤ number_of (value -ℤ look.min)
  later value h =
      let low = ranged.low in
      let before = above look.value look.min low in
      let after = above value look.min (omega (arith, ints)) in
      omega (arith, ints)

  none : number_of (look.min -ℤ look.min) ≡ 0
  none = let is = above look.min look.min (omega (arith, ints)) in omega (arith, ints)

pub shares_follow_values : SharesFollowValues
shares_follow_values look n ranged =
    record {
      least = ap (λ d. n * d / all look ranged) (none look ranged) ∙ (let e : n * 0 / all look ranged ≡ 0 = grind arith in e);
      greatest = mul-div_cancel n (some look ranged);
      within = share-within look ranged n;
      grows = λ value h top. part-grows n (number_of (look.value -ℤ look.min)) (number_of (value -ℤ look.min)) (all look ranged) (some look ranged) (later look ranged value h);
    }

pub knobs_stay_inside : KnobsStayInside
knobs_stay_inside look x y width height ranged =
    let content = area_at x y width height in
    let w = width-is x y width height in
    let h = height-is x y width height in
    let share = share-within look ranged (width_of content) in
    let side = knob_side content in
    let offset = share-within look ranged (width_of content - side) in
    record {
      share = grind (arith, ints, nat_tests);
      knob = grind (arith, ints, nat_tests);
    }
