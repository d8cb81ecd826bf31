-- Every value of an animation lies between its ends.
use Rattle.std.proofs.Common.{ℕ, ◌+◌, ◌-◌, ◌*◌, ◌/◌, ◌<◌, ◌≤◌, Bool, true, false, cond, nat_lt, inl, inr, arith, ℤ}
use Rattle.std.proofs.Math.Nat.{div-le_of_le-mul, mod-lt}
use Rattle.std.proofs.lemmas.Bool.{cases_lt, lt-ltb, le-ltb}
use Rattle.std.proofs.lemmas.Int.{ints, by_lt_z}
use Rattle.play_defs.specs.declared.AnimSpec.{AnimSpec}
use Rattle.play_defs.specs.declared.AnimValue.{AnimValue}
use Rattle.play_defs.specs.declared.AnimValue.TheVariants.{Before, Now, Last}
use Rattle.play_defs.specs.Animation.{is_over, in_round, after_delay}
use Rattle.play_defs.specs.Laws.{IsBetween, LiesBetween, ValuesLieBetween}
use Rattle.play_defs.proofs.Curves.{progress_within}
use Rattle.play_defs.proofs.Shares.{between_ends}

turned_round : (a b n : ℤ) → IsBetween b a n → IsBetween a b n
turned_round a b n (inl h) = inr h
turned_round a b n (inr h) = inl h

-- a part of a time is a part of the whole
pub part_of : (r time : ℕ) → r < time → 1024 * r / time ≤ 1024
part_of r time h = div-le_of_le-mul time (let less : 1024 * r ≤ 1024 * time = omega arith in omega arith)

pub there_or_back : (spec : AnimSpec) (r : ℕ) (there : Bool) (out back : ℤ) → IsBetween spec.start spec.end out → IsBetween spec.start spec.end back → IsBetween spec.start spec.end (cond there out back)
there_or_back spec r true out back h k = h
there_or_back spec r false out back h k = k

pub round_between : (spec : AnimSpec) (r : ℕ) → r < spec.time + spec.playback → IsBetween spec.start spec.end (in_round spec r)
unfolding in_round
round_between spec r h =
    elim (cases_lt r spec.time) [
      | inl lt ↦ let there = lt-ltb r spec.time lt in rw there (between_ends spec.start spec.end _ (progress_within spec.path _ (part_of r spec.time lt)))
      | inr ge ↦ let back = le-ltb r spec.time ge in rw back (turned_round spec.start spec.end _ (between_ends spec.end spec.start _ (progress_within spec.path _ (part_of (r - spec.time) spec.playback (omega arith)))))
    ]

an_end : (a b : ℤ) (back : Bool) → IsBetween a b (cond back a b)
an_end a b true = by_lt_z a b (λ k. inl (omega (arith, ints), omega (arith, ints))) (λ k. inr (omega (arith, ints), omega (arith, ints)))
an_end a b false = by_lt_z a b (λ k. inl (omega (arith, ints), omega (arith, ints))) (λ k. inr (omega (arith, ints), omega (arith, ints)))

either : (a b last n : ℤ) (over : Bool) → IsBetween a b last → IsBetween a b n → LiesBetween a b (cond over (Last last) (Now n))
either a b last n true h k = h
either a b last n false h k = k

after : (spec : AnimSpec) (e : ℕ) → 1 ≤ spec.time → LiesBetween spec.start spec.end (after_delay spec e)
after spec e h = either spec.start spec.end _ _ (is_over spec.repeat (e / (spec.time + spec.playback))) (an_end spec.start spec.end (nat_lt 0 spec.playback)) (round_between spec _ (mod-lt e (omega arith)))

waiting : (a b : ℤ) (value : AnimValue) (early : Bool) → LiesBetween a b value → LiesBetween a b (cond early Before value)
waiting a b value true h = tt
waiting a b value false h = h

pub values_between : ValuesLieBetween
values_between spec elapsed h =
    waiting spec.start spec.end _ (nat_lt elapsed spec.delay) (after spec (elapsed - spec.delay) h)
