-- Tables while the values of listed handles are taken out or put in.
use Rattle.std.proofs.Common.{◌≡◌, ◌∙◌, sym, ap, refl, ℕ, ◌+◌, ◌<◌, ◌≤◌, true, false, true≢false, cond, eqb, eq-eqb, Bool, List, [], ◌∷◌, ◌++◌, length, map, set, get_or, arith}
use Rattle.std.specs.Prelude.{Option, Some, None, is_some, IsSome, IfNone}
use Rattle.std.specs.Option.{OnSome}
use Rattle.std.proofs.lemmas.Bool.Decides.{nat_tests}
use Rattle.std.proofs.lemmas.List.{get_or-set_same, get_or-set_other, length-set, length-append, length-map, get_or_past}
use Rattle.std.proofs.Math.ListN.{get_or-map}
use Rattle.gui_base.specs.Forest.{Forest, Empty, Tree, has, count, size, preorder, StandsOnce}
use Rattle.gui_base.proofs.Visits.{count-has, count-off}
use Rattle.gui_base.specs.declared.Handle.{Handle}
use Rattle.gui_base.specs.declared.intervals.TheConstants.{HANDLE}
use Rattle.gui_pool.specs.Table.{Table, value_at, value_inserted, value_removed}
use Rattle.gui_tree.specs.Handles.{numbers}
use Rattle.gui_boxes.specs.Listing.{times, value_count, AreProper, HasThese}
use Rattle.gui_boxes.specs.Tables.{Listing, listing_of, AreListed}

module _ {T : Type 0} where
  pub within_of : (t : Table T) (h : ℕ) → IsSome (value_at t h) → h < length t.values
  within_of t h some = grind (arith, nat_tests, get_or_past t.values h None, some)

  pub value-set : (vs : List (Option T)) (h k : ℕ) (o : Option T) → h < length vs → get_or (set vs h o) k None ≡ cond (eqb h k) o (get_or vs k None)
  value-set vs h k o within = grind (arith, nat_tests, get_or-set_same vs h o None within, get_or-set_other vs h k o None)

  module _ (t : Table T) (h k : ℕ) where
    pub inserted-count : (v : T) → h < length t.values → value_at t h ≡ None → value_count (value_inserted t h v) k ≡ cond (eqb h k) 1 0 + value_count t k
    inserted-count v within vacant = grind (arith, nat_tests, value-set t.values h k (Some v) within, vacant)

    pub removed-count : IsSome (value_at t h) → value_count (value_removed t h) k + cond (eqb h k) 1 0 ≡ value_count t k
    removed-count some = grind (arith, nat_tests, value-set t.values h k None (within_of t h some), some)

  pub count-some : (t : Table T) (k : ℕ) → 0 < value_count t k → IsSome (value_at t k)
  count-some t k more = by (value_at t k) more where
    by : (o : Option T) → 0 < cond (is_some o) 1 0 → IsSome o
    by None none = absurd (omega arith)
    by (Some v) one = refl

  pub some-count : (t : Table T) (k : ℕ) → IsSome (value_at t k) → 0 < value_count t k
  some-count t k some = rw some (omega arith)

  first_some : (objects : ℕ) (t : Table T) (h : Handle) (hs : List Handle) → HasThese objects t (h ∷ hs) → IsSome (value_at t h.0)
  first_some objects t h hs these = grind (arith, nat_tests, these.each h.0)

  -- the first of them is taken out
  pub these_removed : (objects : ℕ) (t : Table T) (h : Handle) (hs : List Handle) → HasThese objects t (h ∷ hs) → HasThese objects (value_removed t h.0) hs
  these_removed objects t h hs these =
      let some = first_some objects t h hs these in
      let room = these.room in
      record {
        keys = rw (length-set t.values h.0 None) these.keys;
        room = omega arith;
        each = λ k. let a = removed-count t h.0 k some in let b = these.each k in omega arith;
      }

  pub these_after : (objects : ℕ) (t u : Table T) (h : Handle) (hs : List Handle) (result : Option T) → result ≡ value_at t h.0 → OnSome result (u ≡ value_removed t h.0) →
      HasThese objects t (h ∷ hs) → HasThese objects u hs
  these_after objects t u h hs None is removes these = let some = first_some objects t h hs these in absurd (true≢false (sym some ∙ ap is_some (sym is)))
  these_after objects t u h hs (Some v) is removes these = rw removes (these_removed objects t h hs these)

  -- there are as many keys as before
  pub keys_after : (t u : Table T) (h : ℕ) (result : Option T) → OnSome result (u ≡ value_removed t h) → IfNone result (u ≡ t) → length u.values ≡ length t.values
  keys_after t u h None removes same = ap (λ (v : Table T). length v.values) same
  keys_after t u h (Some v) removes same = rw removes (length-set t.values h None)

  -- all of these have values but those that are left, which have none
  pub record HasBut (objects : ℕ) (t : Table T) (hs rest : List Handle) : Type 0 where
    pub keys : HANDLE.high + 1 ≤ length t.values
    pub room : t.spare + length hs ≡ objects + length rest
    pub each : (k : ℕ) → value_count t k + times rest k ≡ times hs k

  pub but_all : (objects : ℕ) (t : Table T) (hs : List Handle) → HasThese objects t [] → HasBut objects t hs hs
  but_all objects t hs blank =
      let room = blank.room in
      record { keys = blank.keys; room = omega arith; each = λ k. let a = blank.each k in omega arith }

  pub but_none : (objects : ℕ) (t : Table T) (hs : List Handle) → HasBut objects t hs [] → HasThese objects t hs
  but_none objects t hs but =
      let room = but.room in
      record { keys = but.keys; room = omega arith; each = λ k. let a = but.each k in omega arith }

  pub none_of : (o : Option T) (n : ℕ) → cond (is_some o) 1 0 ≡ n → n ≡ 0 → o ≡ None
  none_of None n e zero = refl
  none_of (Some v) n e zero = absurd (omega arith)

  -- no handle has a value
  pub some_none : {P : Type 0} (objects : ℕ) (t : Table T) (h : ℕ) → HasThese objects t [] → IsSome (value_at t h) → P
  some_none objects t h blank some = absurd (let a = blank.each h in let one : value_count t h ≡ 1 = ap (λ b. cond b 1 0) some in omega arith)

  -- the first that is left may be put in
  pub record MayPut (t : Table T) (h : Handle) : Type 0 where
    pub within : h.0 < length t.values
    pub vacant : value_at t h.0 ≡ None
    pub room : 0 < t.spare

  pub but_first : (objects : ℕ) (t : Table T) (h : Handle) (hs rest : List Handle) → AreProper hs → length hs ≤ objects → HasBut objects t hs (h ∷ rest) → MayPut t h
  but_first objects t h hs rest proper few but =
      let keys = but.keys in
      let room = but.room in
      let each : value_count t h.0 + (1 + times rest h.0) ≡ times hs h.0 = rw (eq-eqb h.0 h.0 refl) at (but.each h.0) in
      let once = proper.once h.0 in
      let some : 0 < times hs h.0 = omega arith in
      let low = proper.low h.0 some in
      let none : value_count t h.0 ≡ 0 = omega arith in
      record { within = omega arith; vacant = none_of (value_at t h.0) (value_count t h.0) refl none; room = omega arith }

  pub but_put : (objects : ℕ) (t u : Table T) (h : Handle) (v : T) (hs rest : List Handle) → MayPut t h → u ≡ value_inserted t h.0 v → HasBut objects t hs (h ∷ rest) → HasBut objects u hs rest
  but_put objects t u h v hs rest may is but =
      let room = but.room in
      let some = may.room in
      rw is (record {
        keys = rw (length-set t.values h.0 (Some v)) but.keys;
        room = omega arith;
        each = λ k. let a = inserted-count t h.0 k v may.within may.vacant in let b = but.each k in omega arith;
      })

-- Listed handles of a forest.
abbrev pub times_of : List ℕ → ℕ → ℕ
times_of [] k = 0
times_of (h ∷ hs) k = cond (eqb h k) 1 0 + times_of hs k

pub times-append : (xs ys : List ℕ) (k : ℕ) → times_of (xs ++ ys) k ≡ times_of xs k + times_of ys k
times-append [] ys k = omega arith
times-append (x ∷ xs) ys k = let a = times-append xs ys k in omega arith

pub times-preorder : (f : Forest ℕ) (k : ℕ) → times_of (preorder f) k ≡ count f k
times-preorder Empty k = refl
times-preorder (Tree h cs rest) k = let a = times-append (preorder cs) (preorder rest) k in omega (arith, a, times-preorder cs k, times-preorder rest k)

pub length-preorder : (f : Forest ℕ) → length (preorder f) ≡ size f
length-preorder Empty = refl
length-preorder (Tree h cs rest) = let a = length-append (preorder cs) (preorder rest) in omega (arith, a, length-preorder cs, length-preorder rest)

times-numbers : (hs : List Handle) (k : ℕ) → times hs k ≡ times_of (numbers hs) k
times-numbers [] k = refl
times-numbers (h ∷ hs) k = ap (λ n. cond (eqb h.0 k) 1 0 + n) (times-numbers hs k)

true-of : (b : Bool) → (b ≡ false → ⊥) → b ≡ true
true-of true other = refl
true-of false other = absurd (other refl)

module _ (hs : List Handle) (f : Forest ℕ) (listed : numbers hs ≡ preorder f) where
  pub times_is : (k : ℕ) → times hs k ≡ count f k
  times_is k = times-numbers hs k ∙ (ap (λ xs. times_of xs k) listed ∙ times-preorder f k)

  -- what is listed is there
  pub has-times : (k : ℕ) → 0 < times hs k → has f k ≡ true
  has-times k some = let a = times_is k in true-of (has f k) (λ out. let c = count-off f k out in omega arith)

  -- as many are listed as there are objects
  pub length_is : length hs ≡ size f
  length_is = sym (length-map hs (λ (h : Handle). h.0)) ∙ (ap length listed ∙ length-preorder f)

  pub proper_of : StandsOnce f → ((h : ℕ) → has f h ≡ true → h < HANDLE.high + 1) → AreProper hs
  proper_of once low = record {
    once = λ k. let a = times_is k in let b = once k in omega arith;
    low = λ k some. low k (has-times k some);
  }

  module _ {T : Type 0} (objects : ℕ) (t : Table T) (these : HasThese objects t hs) where
    told_by : (b c : Bool) (n : ℕ) → cond b 1 0 ≡ n → (c ≡ true → 1 ≤ n) → (c ≡ false → n ≡ 0) → b ≡ c
    told_by true true n e some none = refl
    told_by true false n e some none = absurd (let z = none refl in omega arith)
    told_by false true n e some none = absurd (let z = some refl in omega arith)
    told_by false false n e some none = refl

    -- a handle has a value where it is there
    pub has_value : (h : ℕ) → is_some (value_at t h) ≡ has f h
    has_value h = told_by (is_some (value_at t h)) (has f h) (count f h) (these.each h ∙ times_is h) (count-has f h) (count-off f h)

    pub are_listed : AreListed (listing_of t) f
    are_listed h there = get_or-map is_some t.values h None ∙ (has_value h ∙ there)

-- a table for as many keys
pub length_kept : {T : Type 0} (t u : Table T) → listing_of u ≡ listing_of t → length u.values ≡ length t.values
length_kept t u same = sym (length-map u.values is_some) ∙ (ap (λ (l : Listing). length l.flags) same ∙ length-map t.values is_some)

-- the same handles have values still
pub these_kept : {T : Type 0} (objects : ℕ) (t u : Table T) (hs : List Handle) → listing_of u ≡ listing_of t → HasThese objects t hs → HasThese objects u hs
these_kept objects t u hs same these =
    let flags : map is_some u.values ≡ map is_some t.values = ap (λ (l : Listing). l.flags) same in
    let spare : u.spare ≡ t.spare = ap (λ (l : Listing). l.spare) same in
    let room = these.room in
    record {
      keys = rw (length_kept t u same) these.keys;
      room = omega arith;
      each = λ k. ap (λ b. cond b 1 0) (sym (get_or-map is_some u.values k None) ∙ (ap (λ bs. get_or bs k false) flags ∙ get_or-map is_some t.values k None)) ∙ these.each k;
    }
