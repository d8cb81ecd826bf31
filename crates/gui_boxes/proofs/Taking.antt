-- Entries that are taken out one by one, and lists from which their objects are taken.
use Rattle.std.proofs.Common.{◌≡◌, ◌∙◌, refl, sym, ap, ℕ, ◌+◌, ◌<◌, true, cond, eqb, List, [], ◌∷◌, length, get_or, set, ◌-◌, arith}
use Rattle.std.specs.Prelude.{Option, None, Some, IsSome, is_some}
use Rattle.std.specs.Option.{OnSome}
use Rattle.std.proofs.lemmas.Bool.{false≢true}
use Rattle.std.specs.List.{sum_by, swap_remove}
use Rattle.std.proofs.lemmas.List.{length-set, length-take-le}
use Rattle.std.proofs.lemmas.List.Sums.{sum_by-cons, sum_by-swap_remove}
use Rattle.gui_base.specs.declared.Handle.{Handle}
use Rattle.gui_pool.specs.Table.{Table, value_at, value_removed}
use Rattle.gui_boxes.specs.Listing.{times, HasThese}
use Rattle.gui_boxes.proofs.These.{removed-count}

-- how often a handle is listed is a sum over the list
abbrev once : ℕ → Handle → ℕ
once k h = cond (eqb h.0 k) 1 0

times-sum : (hs : List Handle) (k : ℕ) → times hs k ≡ sum_by (once k) hs
times-sum [] k = refl
times-sum (h ∷ hs) k = ap (λ n. once k h + n) (times-sum hs k) ∙ sym (sum_by-cons (once k) h hs)

-- one is taken from the list, and the last takes its place
pub times-taken : (hs : List Handle) (i k : ℕ) (d : Handle) → i < length hs → times (swap_remove hs i d) k + once k (get_or hs i d) ≡ times hs k
times-taken hs i k d within = ap (λ n. n + once k (get_or hs i d)) (times-sum (swap_remove hs i d) k) ∙ (sum_by-swap_remove (once k) hs i d within ∙ sym (times-sum hs k))

pub length-taken : (hs : List Handle) (i : ℕ) (d : Handle) → i < length hs → length (swap_remove hs i d) + 1 ≡ length hs
length-taken hs i d within =
    let xs = set hs i (get_or hs (length hs - 1) d) in
    let long = length-set hs i (get_or hs (length hs - 1) d) in
    let short : length (swap_remove hs i d) ≡ length hs - 1 = length-take-le (length hs - 1) xs (omega arith) in
    omega (arith, short)

-- and its value out of the table
pub these_out : {T : Type 0} (objects : ℕ) (t u : Table T) (h : ℕ) (hs us : List Handle) → IsSome (value_at t h) → u ≡ value_removed t h → length us + 1 ≡ length hs → ((k : ℕ) → times us k + cond (eqb h k) 1 0 ≡ times hs k) → HasThese objects t hs → HasThese objects u us
these_out objects t u h hs us some removed short out these =
    let room = these.room in
    rw removed (record {
      keys = rw (length-set t.values h None) these.keys;
      room = omega arith;
      each = λ k. let a = removed-count t h k some in let b = these.each k in let c = out k in omega arith;
    })

-- where it had one
pub these_taken : {T : Type 0} (objects : ℕ) (t u : Table T) (h : ℕ) (hs us : List Handle) (o : Option T) → is_some o ≡ true → o ≡ value_at t h → OnSome o (u ≡ value_removed t h) → length us + 1 ≡ length hs → ((k : ℕ) → times us k + cond (eqb h k) 1 0 ≡ times hs k) → HasThese objects t hs → HasThese objects u us
these_taken objects t u h hs us None had is removes short out these = absurd (false≢true had)
these_taken objects t u h hs us (Some v) had is removes short out these = these_out objects t u h hs us (sym (ap is_some is)) removes short out these
