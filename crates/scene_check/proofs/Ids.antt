-- What the printed numbers of objects say as handles.
use Rattle.std.proofs.Common.{◌≡◌, ◌∙◌, sym, ap, ℕ, ◌<◌, ◌^◌, true, false, Bool, ◌&&◌, arith}
use Rattle.std.specs.Prelude.{ℤ, pos, negsuc, int_le, unsigned_abs, Some, Ok, Err, if◌then◌else◌}
use Rattle.std.specs.Fmt.{signed_decimal}
use Rattle.std.specs.declared.option.Option.{Option}
use Rattle.std.proofs.lemmas.Int.{ints}
use Rattle.std.proofs.lemmas.Bool.Decides.{nat_tests}
use Rattle.gui_base.specs.declared.Handle.{Handle}
use Rattle.run_defs.specs.Fields.{over}
use Rattle.run_defs.specs.Language.{Reading, mapped}
use Rattle.run_defs.specs.Numbers.{number, natural, within, number_of}
use Rattle.run_defs.specs.declared.LineFault.TheVariants.{Range}
use Rattle.line_texts.proofs.Numbers.{number_of-signed}
use Rattle.scene_check.specs.Ids.{IdsSay}
use lib.Signed.{mag}

abbrev to_handle : ℕ → Handle
to_handle n = record { 0 = n }

abbrev of_reading : Reading Handle → ℕ
of_reading (Ok h) = h.0
of_reading (Err fault) = 0

-- the handle that a number is, where it lies in this interval
abbrev read_as : ℕ → ℕ → Option ℤ → Reading Handle
read_as low high n = mapped to_handle (mapped unsigned_abs (within (pos low) (pos high) n))

no_count : (low k : ℕ) (b : Bool) → (int_le (pos low) (negsuc k) && b) ≡ false
no_count low k b = grind (arith, ints, nat_tests)

same_count : (b : Bool) (k : ℕ) (h : Handle) → mapped to_handle (mapped unsigned_abs (if b then Ok (pos k) else Err Range)) ≡ Ok h → pos k ≡ pos h.0
same_count true k h e = ap (λ (r : Reading Handle). pos (of_reading r)) e
same_count false k h e = cc

below_none : (b : Bool) (k : ℕ) (h : Handle) → b ≡ false → mapped to_handle (mapped unsigned_abs (if b then Ok (negsuc k) else Err Range)) ≡ Ok h → negsuc k ≡ pos h.0
below_none true k h f e = cc
below_none false k h f e = cc

same_number : (low high : ℕ) (n : ℤ) (h : Handle) → read_as low high (Some n) ≡ Ok h → n ≡ pos h.0
same_number low high (pos k) h e = same_count (int_le (pos low) (pos k) && int_le (pos k) (pos high)) k h e
same_number low high (negsuc k) h e =
    below_none (int_le (pos low) (negsuc k) && int_le (negsuc k) (pos high)) k h (no_count low k (int_le (negsuc k) (pos high))) e

printed : (low high : ℕ) (n : ℤ) (h : Handle) → mag n < 2 ^ 63 → read_as low high (number_of (signed_decimal n)) ≡ Ok h → n ≡ pos h.0
printed low high n h small e =
    same_number low high n h (ap (read_as low high) (sym (number_of-signed n small)) ∙ e)

pub ids_say : IdsSay
unfolding over natural number
ids_say = record {
  new = λ n h small e. printed 10 9999 n h small e;
  there = λ n h small e. printed 1 9999 n h small e;
}
