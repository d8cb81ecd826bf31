-- Marks and the lists that have them.
use Rattle.std.proofs.Common.{◌≡◌, ◌∙◌, ◌<◌, ◌++◌, ◌∷◌, refl, sym, ap, subst, ℕ, true, false, cond, eqb, eq-eqb, List, [], length, arith, inl, inr}
use Rattle.std.specs.Prelude.{Option, Some, None, IsSome, is_some}
use Rattle.std.proofs.lemmas.Bool.{cases_Bool, eqb-true, both_ways, false≢true}
use Rattle.std.proofs.lemmas.List.{length-set}
use Rattle.gui_base.specs.declared.Handle.{Handle}
use Rattle.gui_pool.specs.Table.{Table, value_at, value_inserted, value_replaced}
use Rattle.gui_boxes.specs.declared.mark.Mark.{Mark}
use Rattle.gui_boxes.specs.declared.mark.Mark.TheVariants.{All, Children, Raised, Settled}
use Rattle.gui_boxes.specs.Listing.{HasThese, times, value_count}
use Rattle.gui_boxes.specs.Pending.{AreMarks, is_all, is_any, is_first, is_own, is_part, is_partly, is_pending}
use Rattle.gui_boxes.specs.Tables.{listing_of}
use Rattle.gui_boxes.proofs.Adding.{these_joined, vacant_is}
use Rattle.gui_boxes.proofs.Listed.{listed_replaced, some_listed}
use Rattle.gui_boxes.proofs.These.{these_kept, value-set, within_of}

-- a mark is of one grade or of the other
pub any-some : (o : Option Mark) → is_any o ≡ true → is_some o ≡ true
any-some None is = absurd (false≢true is)
any-some (Some mark) is = refl

pub all-any : (o : Option Mark) → is_all o ≡ true → is_any o ≡ true
all-any None is = absurd (false≢true is)
all-any (Some All) is = refl
all-any (Some Children) is = absurd (false≢true is)
all-any (Some Raised) is = refl
all-any (Some Settled) is = absurd (false≢true is)

pub part-any : (o : Option Mark) → is_part o ≡ true → is_any o ≡ true
part-any None is = absurd (false≢true is)
part-any (Some All) is = refl
part-any (Some Children) is = refl
part-any (Some Raised) is = absurd (false≢true is)
part-any (Some Settled) is = absurd (false≢true is)

pub any-part : (o : Option Mark) → is_any o ≡ true → is_all o ≡ false → is_part o ≡ true
any-part None is off = absurd (false≢true is)
any-part (Some All) is off = absurd (false≢true (sym off))
any-part (Some Children) is off = refl
any-part (Some Raised) is off = absurd (false≢true (sym off))
any-part (Some Settled) is off = absurd (false≢true is)

-- a mark of children is none of the object itself
part-own : (o : Option Mark) → is_part o ≡ true → is_own o ≡ false
part-own None is = absurd (false≢true is)
part-own (Some All) is = absurd (false≢true is)
part-own (Some Children) is = refl
part-own (Some Raised) is = absurd (false≢true is)
part-own (Some Settled) is = absurd (false≢true is)

-- where no mark is settled or raised yet, one is of the object itself where it is pending
pub own-all : (n : ℕ) (t : Table Mark) (hs : List Handle) (k : ℕ) → AreMarks n t hs → is_own (value_at t k) ≡ is_all (value_at t k)
own-all n t hs k marks = by (value_at t k) refl where
  by : (o : Option Mark) → value_at t k ≡ o → is_own (value_at t k) ≡ is_all (value_at t k)
  by None none = ap is_own none ∙ sym (ap is_all none)
  by (Some mark) one = ap is_own one ∙ (marks.fresh k mark one ∙ sym (ap is_all one))

-- a mark is listed
pub marked-times : (n : ℕ) (t : Table Mark) (hs : List Handle) (k : ℕ) → HasThese n t hs → is_any (value_at t k) ≡ true → 0 < times hs k
marked-times n t hs k these is =
    let one : value_count t k ≡ 1 = ap (λ b. cond b 1 0) (any-some (value_at t k) is) in
    let each = these.each k in omega arith

off-none : (o : Option Mark) (n : ℕ) → cond (is_some o) 1 0 ≡ n → n ≡ 0 → is_any o ≡ false
off-none None n e zero = refl
off-none (Some mark) n e zero = absurd (omega arith)

-- what is not listed has no mark
pub pending-none : (n : ℕ) (t : Table Mark) (hs : List Handle) (k : ℕ) → HasThese n t hs → times hs k ≡ 0 → is_any (value_at t k) ≡ false
pending-none n t hs k these none = off-none (value_at t k) (value_count t k) refl (these.each k ∙ none)

-- what is listed has one
pub times-marked : (n : ℕ) (t : Table Mark) (hs : List Handle) (k : ℕ) → AreMarks n t hs → 0 < times hs k → is_any (value_at t k) ≡ true
times-marked n t hs k marks some = by (value_at t k) refl where
  by : (o : Option Mark) → value_at t k ≡ o → is_any (value_at t k) ≡ true
  by None none = absurd (let zero : value_count t k ≡ 0 = ap (λ (o : Option Mark). cond (is_some o) 1 0) none in let each = marks.these.each k in omega arith)
  by (Some mark) is = ap is_any is ∙ marks.good k mark is

-- what has a value has a mark
pub some-any : (n : ℕ) (t : Table Mark) (hs : List Handle) (k : ℕ) → AreMarks n t hs → is_any (value_at t k) ≡ is_some (value_at t k)
some-any n t hs k marks = by (value_at t k) refl where
  by : (o : Option Mark) → value_at t k ≡ o → is_any (value_at t k) ≡ is_some (value_at t k)
  by None none = ap is_any none ∙ sym (ap is_some none)
  by (Some mark) is = (ap is_any is ∙ marks.good k mark is) ∙ sym (ap is_some is)

-- a mark that is written is that of its handle, and the others are as they were
module _ (n : ℕ) (t : Table Mark) (hs : List Handle) (h : Handle) (mark : Mark) (marks : AreMarks n t hs) (is_one : is_any (Some mark) ≡ true) (is_fresh : is_own (Some mark) ≡ is_all (Some mark)) (within : h.0 < length t.values) where
  opens : (k : ℕ) (is : Mark) → cond (eqb h.0 k) (Some mark) (value_at t k) ≡ Some is → is_any (Some is) ≡ true
  opens k is at = elim (cases_Bool (eqb h.0 k)) [
    | inl own ↦ let same : Some mark ≡ Some is = rw own at at in subst (λ (o : Option Mark). is_any o ≡ true) same is_one
    | inr other ↦ marks.good k is (rw other at at)
  ]

  opens-fresh : (k : ℕ) (is : Mark) → cond (eqb h.0 k) (Some mark) (value_at t k) ≡ Some is → is_own (Some is) ≡ is_all (Some is)
  opens-fresh k is at = elim (cases_Bool (eqb h.0 k)) [
    | inl own ↦ let same : Some mark ≡ Some is = rw own at at in subst (λ (o : Option Mark). is_own o ≡ is_all o) same is_fresh
    | inr other ↦ marks.fresh k is (rw other at at)
  ]

  -- one mark more
  pub joined-marks : is_some (value_at t h.0) ≡ false → length hs < n → AreMarks n (value_inserted t h.0 mark) (hs ++ h ∷ [])
  joined-marks off few =
      let room = marks.these.room in
      let some : 0 < t.spare = omega arith in
      let none : times hs h.0 ≡ 0 = sym (marks.these.each h.0) ∙ ap (λ b. cond b 1 0) off in
      record {
        keys = rw (length-set t.values h.0 (Some mark)) marks.keys;
        these = these_joined t h mark within (vacant_is n t hs h.0 marks.these none) n hs marks.these some;
        good = λ k is at. opens k is (sym (value-set t.values h.0 k (Some mark) within) ∙ at);
        fresh = λ k is at. opens-fresh k is (sym (value-set t.values h.0 k (Some mark) within) ∙ at);
      }

  -- another in its place
  pub replaced-marks : IsSome (value_at t h.0) → AreMarks n (value_replaced t h.0 mark) hs
  replaced-marks some = record {
    keys = rw (length-set t.values h.0 (Some mark)) marks.keys;
    these = these_kept n t (value_replaced t h.0 mark) hs (listed_replaced t h.0 mark (some_listed t h.0 some)) marks.these;
    good = λ k is at. opens k is (sym (value-set t.values h.0 k (Some mark) within) ∙ at);
    fresh = λ k is at. opens-fresh k is (sym (value-set t.values h.0 k (Some mark) within) ∙ at);
  }

-- a mark of children is raised
pub record Raises (old new : Table Mark) (h : ℕ) : Type 0 where
  pub own : is_pending new h ≡ true
  pub more : (k : ℕ) → is_pending old k ≡ true → is_pending new k ≡ true
  pub still : (k : ℕ) → is_partly old k ≡ true → is_pending new k ≡ false → is_partly new k ≡ true
  pub any : (k : ℕ) → is_any (value_at new k) ≡ is_any (value_at old k)
  pub first : (k : ℕ) → is_first new k ≡ is_first old k
  pub listed : listing_of new ≡ listing_of old

pub raised : (t : Table Mark) (h : ℕ) → is_partly t h ≡ true → Raises t (value_replaced t h Raised) h
raised t h part =
    let any = part-any (value_at t h) part in
    let some = any-some (value_at t h) any in
    let u = value_replaced t h Raised in
    let value : (k : ℕ) → value_at u k ≡ cond (eqb h k) (Some Raised) (value_at t k) = λ k. value-set t.values h k (Some Raised) (within_of t h some) in
    let own : (k : ℕ) → eqb h k ≡ true → value_at u k ≡ Some Raised = λ k is. value k ∙ ap (λ b. cond b (Some Raised) (value_at t k)) is in
    let rest : (k : ℕ) → eqb h k ≡ false → value_at u k ≡ value_at t k = λ k other. value k ∙ ap (λ b. cond b (Some Raised) (value_at t k)) other in
    record {
      own = ap is_all (own h (eq-eqb h h refl));
      more = λ k is. elim (cases_Bool (eqb h k)) [ inl same ↦ ap is_all (own k same) | inr other ↦ ap is_all (rest k other) ∙ is ];
      still = λ k was none. elim (cases_Bool (eqb h k)) [
        | inl same ↦ absurd (both_ways (is_pending u k) none (ap is_all (own k same)))
        | inr other ↦ ap is_part (rest k other) ∙ was
      ];
      any = λ k. elim (cases_Bool (eqb h k)) [
        | inl same ↦ ap is_any (own k same) ∙ sym (subst (λ j. is_any (value_at t j) ≡ true) (eqb-true h k same) any)
        | inr other ↦ ap is_any (rest k other)
      ];
      first = λ k. elim (cases_Bool (eqb h k)) [
        | inl same ↦ ap is_own (own k same) ∙ sym (subst (λ j. is_first t j ≡ false) (eqb-true h k same) (part-own (value_at t h) part))
        | inr other ↦ ap is_own (rest k other)
      ];
      listed = listed_replaced t h Raised (some_listed t h some);
    }
