-- The handles of the objects that changes make, and the numbers that are noted of nodes.
use Rattle.std.proofs.Common.{◌≡◌, ◌∙◌, refl, ap, ℕ, ℤ, true, false, Bool, List, [], ◌∷◌, ◌++◌, map, arith}
use Rattle.std.specs.Prelude.{Some, None, pos, ◌==◌, if◌then◌else◌}
use Rattle.std.specs.List.{list_all, list_any}
use Rattle.std.specs.Ordering.{int_eq}
use Rattle.std.specs.declared.option.Option.{Option}
use Rattle.std.proofs.lemmas.Int.{ints}
use Rattle.std.proofs.lemmas.Bool.Decides.{nat_tests}
use Rattle.gui_base.specs.declared.words.Kind.{Kind}
use Rattle.scene_defs.specs.declared.Change.{Change}
use Rattle.scene_defs.specs.declared.Change.TheVariants as change
use Rattle.scene_json.specs.Writing.{Writing, put_id}
use Rattle.scene_check.specs.Made.{is_among, is_other, ids_after, are_other}
use Rattle.scene_check.specs.Trees.{is_own}
use Rattle.scene_check.proofs.Holding.{both_hold}

-- the handles after all of them
abbrev pub all_ids : List ℕ → List Change → List ℕ
all_ids ids [] = ids
all_ids ids (change ∷ changes) = all_ids (ids_after ids change) changes

pub ids_append : (ids : List ℕ) (xs ys : List Change) → all_ids ids (xs ++ ys) ≡ all_ids (all_ids ids xs) ys
ids_append ids [] ys = refl
ids_append ids (x ∷ xs) ys = ids_append (ids_after ids x) xs ys

pub other_append : (ids : List ℕ) (xs ys : List Change) → are_other ids xs ≡ true → are_other (all_ids ids xs) ys ≡ true → are_other ids (xs ++ ys) ≡ true
other_append ids [] ys h k = k
other_append ids (x ∷ xs) ys h k =
    let two = both_hold (is_other ids x) (are_other (ids_after ids x) xs) h in
    rw (two.0) (other_append (ids_after ids x) xs ys two.1 k)

-- Changes of what is an object's own make none.

record Quiet (ids : List ℕ) (c : Change) : Type 0 where
  kept : ids_after ids c ≡ ids
  other : is_other ids c ≡ true

quiet : (ids : List ℕ) (h : ℕ) (kind : Kind) (c : Change) → is_own h kind c ≡ true → Quiet ids c
quiet ids h kind (change.Size g width height) e = record { kept = refl; other = refl }
quiet ids h kind (change.Pos g x y) e = record { kept = refl; other = refl }
quiet ids h kind (change.Flag g flag on) e = record { kept = refl; other = refl }
quiet ids h kind (change.Text g text) e = record { kept = refl; other = refl }
quiet ids h kind (change.Local g selector prop value) e = record { kept = refl; other = refl }
quiet ids h kind c e = cc

pub record AllQuiet (ids : List ℕ) (cs : List Change) : Type 0 where
  pub kept : all_ids ids cs ≡ ids
  pub other : are_other ids cs ≡ true

pub all_quiet : (ids : List ℕ) (h : ℕ) (kind : Kind) (cs : List Change) → list_all (is_own h kind) cs ≡ true → AllQuiet ids cs
all_quiet ids h kind [] e = record { kept = refl; other = refl }
all_quiet ids h kind (c ∷ cs) e =
    let two = both_hold (is_own h kind c) (list_all (is_own h kind) cs) e in
    let one = quiet ids h kind c two.0 in
    let later = all_quiet ids h kind cs two.1 in
    record {
      kept = ap (λ (is : List ℕ). all_ids is cs) one.kept ∙ later.kept;
      other = rw (one.other) (ap (λ (is : List ℕ). are_other is cs) one.kept ∙ later.other);
    }

-- The numbers that are noted.

same_int : (a n : ℕ) → int_eq (pos a) (pos n) ≡ (a == n)
same_int a n = grind (arith, ints, nat_tests)

pub noted_among : (ids : List ℕ) (n : ℕ) → list_any (λ other. int_eq other (pos n)) (map pos ids) ≡ is_among n ids
noted_among [] n = refl
noted_among (id ∷ ids) n = rw (same_int id n, noted_among ids n) refl

-- what is noted where a number is new
pub record Noted (number : ℤ) (w v : Writing) : Type 0 where
  pub text : v.text ≡ w.text
  pub ids : v.ids ≡ w.ids ++ number ∷ []
  pub new : list_any (λ other. int_eq other number) w.ids ≡ false

abbrev pub NotedOr : ℤ → Writing → Option Writing → Type 0
NotedOr number w None = Unit {0}
NotedOr number w (Some v) = Noted number w v

pub noted_or : (number : ℤ) (w : Writing) → NotedOr number w (put_id number w)
noted_or number w = by (list_any (λ other. int_eq other number) w.ids) refl where
  by : (b : Bool) → list_any (λ other. int_eq other number) w.ids ≡ b → NotedOr number w (if b then None else Some (record w { ids = w.ids ++ number ∷ [] }))
  by true e = tt
  by false e = record { text = refl; ids = refl; new = e }
