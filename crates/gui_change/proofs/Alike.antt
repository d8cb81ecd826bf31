-- Lists that have the same objects, in any order.
use Rattle.std.proofs.Common.{◌≡◌, ◌∙◌, sym, refl, ℕ, ◌+◌, ◌<◌, true, eqb, cond, List, [], ◌∷◌, length, arith}
use Rattle.std.proofs.lemmas.Bool.Decides.{nat_tests}
use Rattle.gui_base.specs.declared.Handle.{Handle}
use Rattle.gui_boxes.specs.Listing.{times, HasThese}
use Rattle.gui_pool.specs.Table.{Table}
use Rattle.gui_tree.specs.Handles.{numbers}
use Rattle.debt_defs.specs.SceneLook.{is_among}
use Rattle.gui_change.specs.Again.{AreAlike}

-- a list without the first h
abbrev without : ℕ → List Handle → List Handle
without h [] = []
without h (k ∷ ks) = cond (eqb k.0 h) ks (k ∷ without h ks)

times-without : (h j : ℕ) (ks : List Handle) → 0 < times ks h → times (without h ks) j + cond (eqb h j) 1 0 ≡ times ks j
times-without h j [] some = absurd (omega arith)
times-without h j (k ∷ ks) some = grind (arith, nat_tests, some, times-without h j ks)

length-without : (h : ℕ) (ks : List Handle) → 0 < times ks h → length (without h ks) + 1 ≡ length ks
length-without h [] some = absurd (omega arith)
length-without h (k ∷ ks) some = grind (arith, nat_tests, some, length-without h ks)

-- lists that have each handle as often are as long
pub same-length : (hs ks : List Handle) → ((h : ℕ) → times ks h ≡ times hs h) → length ks ≡ length hs
same-length [] [] each = refl
same-length [] (k ∷ ks) each = absurd (let some = each k.0 in grind (arith, nat_tests, some))
same-length (h ∷ hs) ks each =
    let some : 0 < times ks h.0 = grind (arith, nat_tests, each h.0) in
    let less = λ (j : ℕ). let a = times-without h.0 j ks some in let b = each j in let e : times (without h.0 ks) j ≡ times hs j = omega (arith, a, b) in e in
    let n = length-without h.0 ks some in
    let m = same-length hs (without h.0 ks) less in
    omega arith

-- so are lists that have each handle as often
pub alike-each : (hs ks : List Handle) → ((h : ℕ) → times ks h ≡ times hs h) → AreAlike hs ks
alike-each hs ks each = record { each = each; len = same-length hs ks each }

-- a table has values for one as for the other
pub these_alike : {T : Type 0} (objects : ℕ) (t : Table T) (hs ks : List Handle) → AreAlike hs ks → HasThese objects t hs → HasThese objects t ks
these_alike objects t hs ks same these =
    let room = these.room in
    let len = same.len in
    record { keys = these.keys; room = omega arith; each = λ k. these.each k ∙ sym (same.each k) }

pub among-times : (hs : List Handle) (h : ℕ) → is_among (numbers hs) h ≡ true → 0 < times hs h
among-times [] h i = cc
among-times (k ∷ ks) h i = grind (arith, nat_tests, i, among-times ks h)

pub times-among : (hs : List Handle) (h : ℕ) → 0 < times hs h → is_among (numbers hs) h ≡ true
times-among [] h some = absurd (omega arith)
times-among (k ∷ ks) h some = grind (arith, nat_tests, some, times-among ks h)

pub among_alike : (hs ks : List Handle) → AreAlike hs ks → (h : ℕ) → is_among (numbers hs) h ≡ true → is_among (numbers ks) h ≡ true
among_alike hs ks same h i = times-among ks h (let a = among-times hs h i in let b = same.each h in omega arith)

-- a list that has h, with h first
pub record PutsFirst (h : Handle) (ks : List Handle) : Type 0 where
  pub rest : List Handle
  pub same : AreAlike ks (h ∷ rest)

pub put-first : (h : Handle) (ks : List Handle) → 0 < times ks h.0 → PutsFirst h ks
put-first h ks some =
    let n = length-without h.0 ks some in
    record {
      rest = without h.0 ks;
      same = record {
        each = λ j. let a = times-without h.0 j ks some in omega (arith, a);
        len = omega (arith, n);
      };
    }
