-- A value more in a table, and how many values it may have.
use Rattle.std.proofs.Common.{◌≡◌, ◌∙◌, refl, ap, subst, ℕ, zero, suc, ◌+◌, ◌<◌, ◌≤◌, Bool, true, false, cond, eqb, eq-eqb, List, [], ◌∷◌, ◌++◌, length, arith, inl, inr}
use Rattle.std.specs.Prelude.{Some, None, is_some}
use Rattle.std.proofs.lemmas.Bool.{cases_Bool, eqb-true, both_ways, false_from_ne_true}
use Rattle.std.proofs.lemmas.Bool.Decides.{nat_tests}
use Rattle.std.proofs.lemmas.List.{length-append, length-set}
use Rattle.gui_base.specs.Forest.{Forest, count, has, preorder, size}
use Rattle.gui_base.proofs.Visits.{count-has}
use Rattle.gui_base.specs.declared.Handle.{Handle}
use Rattle.gui_pool.specs.Table.{Table, value_at, value_inserted}
use Rattle.gui_boxes.specs.Listing.{times, AddsValue, HasThese}
use Rattle.gui_boxes.proofs.Leaving.{times-both}
use Rattle.gui_boxes.proofs.These.{inserted-count, length-preorder, none_of, times-append, times-preorder, times_of, value-set}

-- Lists by how often they have each number.

-- where a number stands in a list
record Stands (xs : List ℕ) (h : ℕ) : Type 0 where
  before : List ℕ
  after : List ℕ
  is : xs ≡ before ++ h ∷ after

stands : (xs : List ℕ) (h : ℕ) → 1 ≤ times_of xs h → Stands xs h
stands [] h some = absurd (omega arith)
stands (x ∷ xs) h some = elim (cases_Bool (eqb x h)) [
  | inl is ↦ record { before = []; after = xs; is = ap (λ y. y ∷ xs) (eqb-true x h is) }
  | inr isnt ↦ let later = rw isnt at some in let s = stands xs h (omega (arith, later)) in record { before = x ∷ s.before; after = s.after; is = ap (λ ys. x ∷ ys) s.is }
]

-- a list that has no number oftener than another is no longer
no-longer : (hs : List Handle) (xs : List ℕ) → ((k : ℕ) → times hs k ≤ times_of xs k) → length hs ≤ length xs
no-longer [] xs less = omega arith
no-longer (h ∷ hs) xs less =
    let first : 1 + times hs h.0 ≤ times_of xs h.0 = rw (eq-eqb h.0 h.0 refl) at (less h.0) in
    let s = stands xs h.0 (omega arith) in
    let short = no-longer hs (s.before ++ s.after) (λ k.
    let all : cond (eqb h.0 k) 1 0 + times hs k ≤ times_of xs k = less k in
    let is : times_of xs k ≡ times_of (s.before ++ h.0 ∷ s.after) k = ap (λ ys. times_of ys k) s.is in
    let a = times-append s.before (h.0 ∷ s.after) k in
    let b = times-append s.before s.after k in
    omega arith) in
    let is : length xs ≡ length (s.before ++ h.0 ∷ s.after) = ap (λ ys. length ys) s.is in
    let a = length-append s.before (h.0 ∷ s.after) in
    let b = length-append s.before s.after in
    omega arith

-- where none but objects of a forest have values, and one of them has none, fewer are listed than there are
pub listed-fewer : {T : Type 0} (n : ℕ) (t : Table T) (hs : List Handle) (h : Handle) (f : Forest ℕ) → HasThese n t hs → ((k : ℕ) → is_some (value_at t k) ≡ true → has f k ≡ true) → has f h.0 ≡ true → is_some (value_at t h.0) ≡ false → length hs < size f
listed-fewer n t hs h f these some there none =
    let short = no-longer (h ∷ hs) (preorder f) (λ k. let a = times-preorder f k in let b = each k in omega arith) in
    omega (arith, length-preorder f)
  where
    one : (k : ℕ) (b : Bool) → is_some (value_at t k) ≡ b → cond (eqb h.0 k) 1 0 + cond b 1 0 ≤ count f k
    one k true is =
        let other : eqb h.0 k ≡ false = false_from_ne_true (eqb h.0 k) (λ e. both_ways (is_some (value_at t k)) (subst (λ j. is_some (value_at t j) ≡ false) (eqb-true h.0 k e) none) is) in
        rw other (count-has f k (some k is))
    one k false is = elim (cases_Bool (eqb h.0 k)) [
      | inl same ↦ rw same (count-has f k (subst (λ j. has f j ≡ true) (eqb-true h.0 k same) there))
      | inr other ↦ rw other (omega arith)
    ]

    each : (k : ℕ) → times (h ∷ hs) k ≤ count f k
    each k = let a = these.each k in let b = one k (is_some (value_at t k)) refl in omega arith

-- where none but objects of a forest are listed, each once, and one of them is not, fewer are listed than there are
pub left-fewer : (hs : List Handle) (h : Handle) (f : Forest ℕ) → ((k : ℕ) → times hs k ≤ 1) → ((k : ℕ) → 0 < times hs k → has f k ≡ true) → has f h.0 ≡ true → times hs h.0 ≡ 0 → length hs < size f
left-fewer hs h f once some there none =
    let short = no-longer (h ∷ hs) (preorder f) (λ k. let a = times-preorder f k in let b = each k in omega arith) in
    omega (arith, length-preorder f)
  where
    few : (k n : ℕ) → times hs k ≡ n → n ≤ 1 → n ≤ count f k
    few k zero is one = omega arith
    few k (suc n) is one = let c = count-has f k (some k (let e = is in omega arith)) in omega arith

    each : (k : ℕ) → times (h ∷ hs) k ≤ count f k
    each k = elim (cases_Bool (eqb h.0 k)) [
      | inl same ↦
          let off : times hs k ≡ 0 = subst (λ j. times hs j ≡ 0) (eqb-true h.0 k same) none in
          let c = count-has f k (subst (λ j. has f j ≡ true) (eqb-true h.0 k same) there) in
          rw same (omega arith)
      | inr other ↦ let c = few k (times hs k) refl (once k) in rw other (omega arith)
    ]

-- A value more in a table.
module _ {T : Type 0} (t : Table T) (h : Handle) (v : T) (within : h.0 < length t.values) (vacant : value_at t h.0 ≡ None) where
  pub these_joined : (n : ℕ) (hs : List Handle) → HasThese n t hs → 0 < t.spare → HasThese n (value_inserted t h.0 v) (hs ++ h ∷ [])
  these_joined n hs these some =
      let room = these.room in
      let long = length-append hs (h ∷ []) in
      record {
        keys = rw (length-set t.values h.0 (Some v)) these.keys;
        room = omega arith;
        each = λ k. let a = inserted-count t h.0 k v within vacant in let b = these.each k in let c = times-both hs (h ∷ []) k in omega arith;
      }

  pub adds : AddsValue h.0 t (value_inserted t h.0 v)
  adds = record {
    own = ap is_some (value-set t.values h.0 h.0 (Some v) within ∙ ap (λ b. cond b (Some v) (value_at t h.0)) (eq-eqb h.0 h.0 refl));
    same = λ k other. value-set t.values h.0 k (Some v) within ∙ ap (λ b. cond b (Some v) (value_at t k)) (other-way k other);
  }
    where
      other-way : (k : ℕ) → eqb k h.0 ≡ false → eqb h.0 k ≡ false
      other-way k other = grind (arith, nat_tests, other)

-- a handle that is not listed has no value
pub vacant_is : {T : Type 0} (n : ℕ) (t : Table T) (hs : List Handle) (h : ℕ) → HasThese n t hs → times hs h ≡ 0 → value_at t h ≡ None
vacant_is n t hs h these none = none_of (value_at t h) (times hs h) (these.each h) none
