use Rattle.std.proofs.Common.{◌≡◌, sym, subst, ℤ, pos, negsuc, ◌≤ℤ◌, true, w16, w32, to_z, of_z, arith}
use Rattle.std.proofs.lemmas.Bool.Decides.{nat_tests}
use Rattle.std.proofs.lemmas.Int.{ints, to_z-of_z}
use Rattle.gui_base.specs.Intervals.{is_within}
use Rattle.gui_base.specs.declared.intervals.TheConstants.{SCROLL}
use Rattle.scene_defs.specs.Valid.{IsOffset}
use Rattle.scene_defs.proofs.InRange.{numbers_of}
use Rattle.gui_layout.proofs.objects.row_box.Goals as goal

-- an offset as it is read
read-within : (n : ℤ) → is_within SCROLL n ≡ true → is_within SCROLL (to_z w32 (of_z w32 n)) ≡ true
read-within n is = subst (λ m. is_within SCROLL m ≡ true) (sym (to_z-of_z w32 n (grind (arith, ints, nat_tests, is)))) is

pub stored_scroll-requires : goal.stored_scroll-requires
stored_scroll-requires c = read-within c.args.row.now.scroll_x (numbers_of c.args.row.now c.requires.in_range).scroll_x

pub stored_scroll-requires-2 : goal.stored_scroll-requires-2
stored_scroll-requires-2 c = read-within c.args.row.now.scroll_y (numbers_of c.args.row.now c.requires.in_range).scroll_y

-- a wanted place as it is read, and as it is kept
read-offset : (n : ℤ) → IsOffset n → IsOffset (to_z w32 (of_z w32 n))
read-offset n is = subst IsOffset (sym (to_z-of_z w32 n (grind (arith, ints, nat_tests, is)))) is

pub stored_place-requires : goal.stored_place-requires
stored_place-requires c = read-offset c.args.row.now.x (numbers_of c.args.row.now c.requires.in_range).x

pub stored_place-requires-2 : goal.stored_place-requires-2
stored_place-requires-2 c = read-offset c.args.row.now.y (numbers_of c.args.row.now c.requires.in_range).y

record IsWanted (n : ℤ) : Type 0 where
  least : negsuc 3999 ≤ℤ to_z w16 (of_z w16 n)
  most : to_z w16 (of_z w16 n) ≤ℤ pos 4000

wanted : (n : ℤ) → negsuc 3999 ≤ℤ n → n ≤ℤ pos 4000 → IsWanted n
wanted n least most =
    let kept : to_z w16 (of_z w16 n) ≡ n = to_z-of_z w16 n (grind (arith, ints, nat_tests)) in
    record { least = rw kept least; most = rw kept most }

pub invariant_of-result : goal.invariant_of-result
invariant_of-result c =
    let x = wanted c.stored_place.result c.stored_place.ensures.least c.stored_place.ensures.most in
    record { wanted_least = x.least; wanted_most = x.most; before_fits = c.inset.ensures.small; gap_fits = c.pad.ensures.small; scroll_fits = c.stored_scroll.ensures.small }

pub invariant_of-result-2 : goal.invariant_of-result-2
invariant_of-result-2 c =
    let y = wanted c.stored_place-2.result c.stored_place-2.ensures.least c.stored_place-2.ensures.most in
    record { wanted_least = y.least; wanted_most = y.most; before_fits = c.inset-3.ensures.small; gap_fits = c.pad-2.ensures.small; scroll_fits = c.stored_scroll-2.ensures.small }
