-- An object gets a value.
use Rattle.std.proofs.Common.{◌≡◌, sym, subst, refl, true, false, Bool, Option, Some, None, ℤ, ◌+ℤ◌, FitsSigned, w32, arith}
use Rattle.std.proofs.lemmas.Int.{ints}
use Rattle.scene_defs.specs.Valid.{IsRow}
use Rattle.std.specs.Ordering.{int_eq}
use Rattle.std.proofs.lemmas.Bool.Decides.{Decides-int_eq}
use Rattle.gui_base.specs.declared.Handle.{Handle}
use Rattle.run_defs.specs.Making.{make}
use Rattle.run_defs.specs.Reactions.{goes_up, is_slider, nudge, nudge_by, put_value, put_value_in, step_of}
use Rattle.gui_base.specs.declared.events.Key.{Key}
use Rattle.scene_defs.specs.declared.Change.TheVariants as change
use Rattle.scene_defs.specs.declared.Row.{Row}
use Rattle.scene_defs.specs.Row.{brought_in, is_range}
use Rattle.scene_defs.proofs.InRange.{numbers_of}
use Rattle.std.specs.Prelude.{◌&&◌, int_le, int_lt, pos, negsuc, ◌≤ℤ◌, ◌<ℤ◌}
use Rattle.std.proofs.lemmas.Bool.{and_parts}
use Rattle.gui_base.specs.Intervals.{is_within}
use Rattle.gui_base.specs.declared.intervals.TheConstants.{VALUE}
use Rattle.scene_defs.specs.Scene.{row_at}
use Rattle.gui_board.specs.Stages.{Stage, Played}
use Rattle.gui_board.proofs.Plays.{idle}

apart_is : (a b : ℤ) → (a ≡ b → ⊥) → int_eq a b ≡ false
apart_is a b apart = by (int_eq a b) refl where
  by : (t : Bool) → int_eq a b ≡ t → int_eq a b ≡ false
  by true e = absurd (apart ((Decides-int_eq a b).0 e))
  by false e = e

-- nothing where the object is not there
pub valued_none : (a : Stage) (n : ℤ) (h : Handle) → row_at a.machine.scene h.0 ≡ None → Played a a (put_value n h a.machine)
unfolding put_value
valued_none a n h e = subst (λ (row : Option Row). Played a a (put_value_in row n h a.machine)) (sym e) (idle a)

-- and nothing where it has the value already
pub valued_same : (a : Stage) (n : ℤ) (h : Handle) (row : Row) → row_at a.machine.scene h.0 ≡ Some row → brought_in row.min row.max n ≡ row.value → Played a a (put_value n h a.machine)
unfolding put_value
valued_same a n h row e same = subst (λ (o : Option Row). Played a a (put_value_in o n h a.machine)) (sym e) (let is = (Decides-int_eq (brought_in row.min row.max n) row.value).1 same in rw is (idle a))

pub valued : (a b : Stage) (n : ℤ) (h : Handle) (row : Row) → row_at a.machine.scene h.0 ≡ Some row → (brought_in row.min row.max n ≡ row.value → ⊥) →
    Played a b (make (change.Value h (brought_in row.min row.max n)) a.machine) → Played a b (put_value n h a.machine)
unfolding put_value
valued a b n h row e apart played = subst (λ (o : Option Row). Played a b (put_value_in o n h a.machine)) (sym e) (let is = apart_is (brought_in row.min row.max n) row.value apart in rw is played)

-- a slider goes one up or down, and nothing else does
pub nudged_none : (a : Stage) (key : Key) (h : Handle) → row_at a.machine.scene h.0 ≡ None → Played a a (nudge key h a.machine)
unfolding nudge
nudged_none a key h e = subst (λ (row : Option Row). Played a a (nudge_by row key h a.machine)) (sym e) (idle a)

pub nudged_other : (a : Stage) (key : Key) (h : Handle) (row : Row) → row_at a.machine.scene h.0 ≡ Some row → is_slider row.kind ≡ false → Played a a (nudge key h a.machine)
unfolding nudge
nudged_other a key h row e other = subst (λ (o : Option Row). Played a a (nudge_by o key h a.machine)) (sym e) (rw other (idle a))

pub nudged : (a b : Stage) (key : Key) (h : Handle) (row : Row) (n : ℤ) → row_at a.machine.scene h.0 ≡ Some row → is_slider row.kind ≡ true → n ≡ row.value +ℤ step_of key → Played a b (put_value n h a.machine) → Played a b (nudge key h a.machine)
unfolding nudge
nudged a b key h row n e is sum played =
    subst (λ (o : Option Row). Played a b (nudge_by o key h a.machine)) (sym e) (rw is (subst (λ (m : ℤ). Played a b (put_value m h a.machine)) sum played))

-- the ends of a row's range, and its value between them
pub record Ranged (row : Row) : Type 0 where
  pub lowest : negsuc 9999 ≤ℤ row.min
  pub above : row.min <ℤ row.max
  pub highest : row.max ≤ℤ pos 10000
  pub least : row.min ≤ℤ row.value
  pub most : row.value ≤ℤ row.max

pub ranged : (row : Row) → IsRow row → Ranged row
ranged row is =
    let ranged = (numbers_of row is).ranged in
    let ends : is_range row.min row.max ≡ true = (and_parts (is_range row.min row.max) _ ranged).0 in
    let within : (int_le row.min row.value && int_le row.value row.max) ≡ true = (and_parts (is_range row.min row.max) _ ranged).1 in
    let low : is_within VALUE row.min ≡ true = (and_parts (is_within VALUE row.min) _ ends).0 in
    let high : (is_within VALUE row.max && int_lt row.min row.max) ≡ true = (and_parts (is_within VALUE row.min) _ ends).1 in
    record {
      lowest = grind (arith, ints, low);
      above = grind (arith, ints, high);
      highest = grind (arith, ints, high);
      least = grind (arith, ints, within);
      most = grind (arith, ints, within);
    }

-- one more or one less than a value still fits
near_value : (row : Row) → IsRow row → (negsuc 10000 ≤ℤ row.value) × (row.value ≤ℤ pos 10001)
near_value row is = let r = ranged row is in let l = r.lowest in let h = r.highest in let a = r.least in let b = r.most in (omega (arith, ints), omega (arith, ints))

pub value_steps : (row : Row) (key : Key) (n : ℤ) → IsRow row → n ≡ step_of key → FitsSigned w32 (row.value +ℤ n)
value_steps row key n is e = by (goes_up key) refl (near_value row is) where
  by : (up : Bool) → goes_up key ≡ up → (negsuc 10000 ≤ℤ row.value) × (row.value ≤ℤ pos 10001) → FitsSigned w32 (row.value +ℤ n)
  by true u near = let one = rw u at e in let low = near.0 in let high = near.1 in omega (arith, ints)
  by false u near = let one = rw u at e in let low = near.0 in let high = near.1 in omega (arith, ints)
