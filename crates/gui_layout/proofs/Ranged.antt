-- Numbers that lie in their ranges, as they are kept in 32 bits.
use Rattle.std.proofs.Common.{◌≡◌, ◌∙◌, subst, sym, ℤ, pos, true, SFits, w32, to_z, of_z, arith}
use Rattle.std.specs.Prelude.{◌&&◌, int_le, int_lt, negsuc, ◌≤ℤ◌, ◌<ℤ◌}
use Rattle.std.proofs.lemmas.Bool.{and_parts}
use Rattle.std.proofs.lemmas.Bool.Decides.{nat_tests}
use Rattle.std.proofs.lemmas.Int.{ints, to_z-of_z}
use Rattle.gui_base.specs.declared.intervals.TheConstants.{VALUE}
use Rattle.gui_base.specs.declared.props.Prop.{Prop}
use Rattle.gui_base.specs.Intervals.{is_within}
use Rattle.gui_base.specs.Props.{is_value, values_of}
use Rattle.scene_defs.specs.declared.Row.{Row}
use Rattle.scene_defs.specs.Row.{is_range}
use Rattle.scene_defs.specs.Valid.{IsRow}
use Rattle.scene_defs.proofs.InRange.{numbers_of}

-- a value of a property is kept in 32 bits
value_fits : (p : Prop) (n : ℤ) → int_le (pos 0) (values_of p).low ≡ true → int_le (values_of p).high (pos 16777215) ≡ true → is_value p n ≡ true → SFits w32 n
value_fits p n least most is =
    let both : (int_le (values_of p).low n ≡ true) × (int_le n (values_of p).high ≡ true) = and_parts _ _ is in
    let low = both.0 in
    let high = both.1 in
    grind (arith, ints, nat_tests)

pub kept_value : (p : Prop) (n v : ℤ) → int_le (pos 0) (values_of p).low ≡ true → int_le (values_of p).high (pos 16777215) ≡ true → is_value p n ≡ true → v ≡ n → to_z w32 (of_z w32 n) ≡ v
kept_value p n v least most is e = to_z-of_z w32 n (value_fits p n least most is) ∙ sym e

pub still_value : (p : Prop) (n : ℤ) → int_le (pos 0) (values_of p).low ≡ true → int_le (values_of p).high (pos 16777215) ≡ true → is_value p n ≡ true → is_value p (to_z w32 (of_z w32 n)) ≡ true
still_value p n least most is = subst (λ m. is_value p m ≡ true) (sym (to_z-of_z w32 n (value_fits p n least most is))) is

-- a value lies in its range, which has two ends, and each of them is kept in 32 bits
pub record IsKept (row : Row) : Type 0 where
  pub ends : row.min <ℤ row.max
  pub low : row.min ≤ℤ row.value
  pub high : row.value ≤ℤ row.max
  pub least : negsuc 9999 ≤ℤ row.min
  pub most : row.max ≤ℤ pos 10000

pub kept_by : (row : Row) → IsRow row → IsKept row
kept_by row r =
    let ranged : (is_range row.min row.max && (int_le row.min row.value && int_le row.value row.max)) ≡ true = (numbers_of row r).ranged in
    let a : (is_range row.min row.max ≡ true) × ((int_le row.min row.value && int_le row.value row.max) ≡ true) = and_parts _ _ ranged in
    let b : (is_within VALUE row.min ≡ true) × ((is_within VALUE row.max && int_lt row.min row.max) ≡ true) = and_parts _ _ a.0 in
    let d : (is_within VALUE row.max ≡ true) × (int_lt row.min row.max ≡ true) = and_parts _ _ b.1 in
    let v : (int_le row.min row.value ≡ true) × (int_le row.value row.max ≡ true) = and_parts _ _ a.1 in
    let least = b.0 in
    let most = d.0 in
    let order = d.1 in
    let low = v.0 in
    let high = v.1 in
    record {
      ends = grind (arith, ints, nat_tests, order);
      low = grind (arith, ints, nat_tests, low);
      high = grind (arith, ints, nat_tests, high);
      least = grind (arith, ints, nat_tests, least);
      most = grind (arith, ints, nat_tests, most);
    }

pub fits : (n : ℤ) → negsuc 9999 ≤ℤ n → n ≤ℤ pos 10000 → to_z w32 (of_z w32 n) ≡ n
fits n low high = to_z-of_z w32 n (omega (arith, ints))
