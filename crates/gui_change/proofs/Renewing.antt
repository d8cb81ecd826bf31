-- Tables while values come and go.
use Rattle.std.proofs.Common.{◌≡◌, ◌∙◌, sym, ap, subst, refl, ℕ, ◌+◌, ◌<◌, true, eqb, eq-eqb, cond, List, [], ◌∷◌, ◌++◌, length, Option, Some, None, is_some, inl, inr, arith}
use Rattle.std.specs.Prelude.{IsSome}
use Rattle.std.specs.List.{flat_map}
use Rattle.std.specs.Option.{OnSome}
use Rattle.std.proofs.lemmas.Bool.{cases_Bool, eqb-true, false≢true}
use Rattle.std.proofs.lemmas.List.Sums.{fold-append}
use Rattle.gui_base.specs.Area.{Rect}
use Rattle.gui_base.specs.declared.Handle.{Handle}
use Rattle.gui_damage.specs.Gridded.{GridList, added_all_in, added_in}
use Rattle.gui_boxes.specs.Listing.{times, value_count, HasThese}
use Rattle.gui_boxes.proofs.These.{value-set, within_of}
use Rattle.gui_pool.specs.Table.{Table, value_at, value_inserted, value_removed}
use Rattle.gui_tree.specs.Handles.{numbers}
use Rattle.widget_defs.specs.Items.{Item}
use Rattle.scene_defs.specs.Items.{items_of as items_at}
use Rattle.scene_defs.specs.Scene.{Object, Scene, object_at}
use Rattle.gui_change.specs.Again.{AreSeenOf}
use Rattle.gui_debts.specs.Owed.{sight_of}
use Rattle.gui_debts.specs.Seen.{KeepsItems, items_known, place_in}
use Rattle.gui_debts.specs.Sights.{AreSeen, KeepOthers}
use Rattle.gui_concerns.specs.declared.concerned.Concerned.{Concerned}
use Rattle.gui_debts.specs.declared.seen.Seen.{Seen}
use Rattle.gui_debts.proofs.Sparing.{none-keep}
use Rattle.gui_change.proofs.Staying.{some-each}

pub times-append : (xs ys : List Handle) (n : ℕ) → times (xs ++ ys) n ≡ times xs n + times ys n
times-append [] ys n = omega arith
times-append (x ∷ xs) ys n = let a = times-append xs ys n in omega (arith, a)

-- a table after one more value
module _ (t u : Table Seen) (h : ℕ) (v : Seen) (within : h < length t.values) (is : u ≡ value_inserted t h v) where
  placed : (k : ℕ) → value_at u k ≡ cond (eqb h k) (Some v) (value_at t k)
  placed k = ap (λ (w : Table Seen). value_at w k) is ∙ value-set t.values h k (Some v) within

  pub put-sights : value_at t h ≡ None → sight_of (Some v) ≡ sight_of None → (k : ℕ) → sight_of (value_at u k) ≡ sight_of (value_at t k)
  put-sights vacant nothing k = elim (cases_Bool (eqb h k)) [
    | inl there ↦
        let at : value_at u k ≡ Some v = placed k ∙ rw there refl in
        let was : value_at t k ≡ None = subst (λ (n : ℕ). value_at t n ≡ None) (eqb-true h k there) vacant in
        ap sight_of at ∙ (nothing ∙ ap sight_of (sym was))
    | inr other ↦ ap sight_of (placed k ∙ rw other refl)
  ]

  pub put-keeps : items_known v.paints ≡ [] → (concerned : Concerned) (scene : Scene) → KeepOthers t concerned scene → KeepOthers u concerned scene
  put-keeps empty concerned scene known k s there off found = elim (cases_Bool (eqb h k)) [
    | inl here ↦
        let at : value_at u k ≡ Some v = placed k ∙ rw here refl in
        let both : Some v ≡ Some s = sym at ∙ found in
        let e : v ≡ s = cc in
        subst (KeepsItems scene k) e (none-keep scene k v.paints empty)
    | inr other ↦ known k s there off (sym (placed k ∙ rw other refl) ∙ found)
  ]

pub first-some : (objects : ℕ) (t : Table Seen) (h : Handle) (hs : List Handle) → HasThese objects t (h ∷ hs) → IsSome (value_at t h.0)
first-some objects t h hs these = some-each t (h ∷ hs) these.each h.0 (rw (eq-eqb h.0 h.0 refl) (omega arith))

-- a table after a value is taken out
module _ (t u : Table Seen) (h : ℕ) (result : Option Seen) where
  pub one_less : result ≡ value_at t h → OnSome result (u ≡ value_removed t h) → IsSome (value_at t h) → (k : ℕ) (s : Seen) → value_at u k ≡ Some s → value_at t k ≡ Some s
  one_less is removes some k s found =
      let within = within_of t h some in
      let gone : u ≡ value_removed t h = took result is removes in
      let at : value_at u k ≡ cond (eqb h k) None (value_at t k) = ap (λ (w : Table Seen). value_at w k) gone ∙ value-set t.values h k None within in
      elim (cases_Bool (eqb h k)) [
        | inl there ↦ let none : None ≡ Some s = sym (at ∙ rw there refl) ∙ found in cc
        | inr other ↦ sym (at ∙ rw other refl) ∙ found
      ] where
        took : (o : Option Seen) → o ≡ value_at t h → OnSome o (u ≡ value_removed t h) → u ≡ value_removed t h
        took None e r = absurd (false≢true (ap is_some e ∙ some))
        took (Some v) e r = r

-- what is known still is what was known
pub value-still : (old now : Table Seen) (h : ℕ) → ((k : ℕ) (s : Seen) → value_at now k ≡ Some s → value_at old k ≡ Some s) → IsSome (value_at now h) → value_at now h ≡ value_at old h
value-still old now h rest some = by (value_at now h) refl where
  by : (o : Option Seen) → value_at now h ≡ o → value_at now h ≡ value_at old h
  by None e = absurd (false≢true (sym (ap is_some e) ∙ some))
  by (Some s) e = e ∙ sym (rest h s e)

-- one more has owed
pub one_gone : (owes : ℕ → List Rect) (h : Handle) (rest : List Handle) (now next start : GridList) → added_all_in now (flat_map owes (numbers (h ∷ rest))) ≡ start → next ≡ added_all_in now (owes h.0) →
    added_all_in next (flat_map owes (numbers rest)) ≡ start
one_gone owes h rest now next start left is =
    ap (λ (p : GridList). added_all_in p (flat_map owes (numbers rest))) is ∙ (sym (fold-append added_in now (owes h.0) (flat_map owes (numbers rest))) ∙ left)

-- of those that are left what is known is what is seen of them
pub seen-left : (objects : ℕ) (t u : Table Seen) (hs : List Handle) (scene : Scene) → HasThese objects u hs → ((k : ℕ) (s : Seen) → value_at u k ≡ Some s → value_at t k ≡ Some s) → AreSeenOf t scene hs → AreSeen u scene
seen-left objects t u hs scene these rest seen k s found =
    let one : value_count u k ≡ 1 = rw found refl in
    let each = these.each k in
    seen k s (omega (arith, one, each)) (rest k s found)

pub each-among : (f g : ℕ → List Rect) (hs : List Handle) → ((k : ℕ) → 0 < times hs k → f k ≡ g k) → flat_map f (numbers hs) ≡ flat_map g (numbers hs)
each-among f g [] same = refl
each-among f g (h ∷ hs) same =
    let self : eqb h.0 h.0 ≡ true = eq-eqb h.0 h.0 refl in
    let first : f h.0 ≡ g h.0 = same h.0 (rw self (omega arith)) in
    let rest = each-among f g hs (λ k some. same k (omega (arith, some))) in
    rw (first, rest) refl
