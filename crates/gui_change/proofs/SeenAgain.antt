-- What is known, and what is owed, while objects that are shown are seen again.
use Rattle.std.proofs.Common.{◌≡◌, ◌∙◌, sym, ap, subst, refl, ℕ, ◌<◌, ◌≤◌, Bool, true, false, eqb, nat_lt, map, get_or, eq-eqb, List, [], ◌∷◌, ◌++◌, append_assoc, Option, Some, None, is_some, inl, inr, arith}
use Rattle.std.specs.List.{flat_map}
use Rattle.std.specs.List.Sorted.{IsPermutation}
use Rattle.std.proofs.lemmas.Bool.{cases_Bool, false≢true}
use Rattle.std.proofs.lemmas.Bool.Decides.{nat_tests}
use Rattle.std.proofs.lemmas.List.Sorted.{IsPermutation-append_right, IsPermutation-trans}
use Rattle.std.proofs.lemmas.List.Sums.{fold-append}
use Rattle.std.proofs.Math.ListN.{get_or-map}
use Rattle.gui_base.specs.Area.{Rect}
use Rattle.gui_base.specs.Forest.{count, has}
use Rattle.gui_base.specs.declared.Handle.{Handle}
use Rattle.gui_base.proofs.Visits.{count-has, count-off}
use Rattle.gui_damage.specs.Gridded.{GridList, added_all_in, added_in}
use Rattle.gui_boxes.specs.Listing.{times}
use Rattle.gui_boxes.specs.Tables.{Listing, listing_of}
use Rattle.gui_boxes.proofs.These.{times_of, times-preorder}
use Rattle.gui_pool.specs.Table.{Table, value_at}
use Rattle.gui_tree.specs.Handles.{numbers}
use Rattle.scene_defs.specs.Scene.{Scene, handles_of}
use Rattle.scene_defs.specs.Shown.{order}
use Rattle.scene_defs.specs.Valid.{IsValid}
use Rattle.scene_defs.specs.Visible.{shown_trees}
use Rattle.scene_defs.proofs.Handles.{has-handles}
use Rattle.debt_defs.specs.Debt.{is_named}
use Rattle.debt_defs.proofs.Inside.{among-handles}
use Rattle.gui_change.specs.Again.{AreKnown, AreSeenOf, KeepRest, owed_again, sight_in}
use Rattle.gui_debts.specs.Owed.{sight_of, owed}
use Rattle.gui_debts.specs.Seen.{IsSeen}
use Rattle.gui_change.specs.Sees.{IsSeenIn, KnowsShown, SeesAgain, owing}
use Rattle.gui_debts.specs.Sights.{AreSeen, KeepOthers}
use Rattle.gui_concerns.specs.declared.concerned.Concerned.{Concerned}
use Rattle.gui_debts.specs.declared.seen.Seen.{Seen}
use Rattle.gui_change.proofs.Orders.{shown_once}
use Rattle.gui_change.proofs.Orderless.{all-first, same-off, same-order}
use Rattle.gui_change.proofs.Staying.{seen-owed}

-- something is known of the same objects still
pub known-still : (old new : Table Seen) → listing_of new ≡ listing_of old → (h : ℕ) → is_some (value_at new h) ≡ is_some (value_at old h)
known-still old new same h =
    let flags : map is_some new.values ≡ map is_some old.values = ap (λ (l : Listing). l.flags) same in
    sym (get_or-map is_some new.values h None) ∙ (ap (λ bs. get_or bs h false) flags ∙ get_or-map is_some old.values h None)

pub shown-still : (scene : Scene) (old new : Table Seen) → listing_of new ≡ listing_of old → KnowsShown old scene → KnowsShown new scene
shown-still scene old new same shown h = known-still old new same h ∙ shown h

-- something is known of what stands in the trees that are shown
pub shown-has : (scene : Scene) (t : Table Seen) → KnowsShown t scene → (h : ℕ) → is_some (value_at t h) ≡ has (handles_of (shown_trees scene)) h
shown-has scene t shown h = shown h ∙ (among-handles (shown_trees scene) h ∙ sym (has-handles (shown_trees scene) h))

order-times : (scene : Scene) (h : ℕ) → times_of (order scene) h ≡ count (handles_of (shown_trees scene)) h
order-times scene h = times-preorder (handles_of (shown_trees scene)) h

-- of what nothing is known, it is right
pub nothing-known : (scene : Scene) (t : Table Seen) (h : ℕ) → is_some (value_at t h) ≡ false → IsSeenIn t scene h
nothing-known scene t h none s found = absurd (false≢true (sym none ∙ ap is_some found))

-- one after another
pub then-again : (named : Option ℕ) (scene : Scene) (a b c : Table Seen) (p q r : GridList) → SeesAgain named scene a b p q → SeesAgain None scene b c q r → SeesAgain named scene a c p r
then-again named scene a b c p q r first next = record {
  listing = next.listing ∙ first.listing;
  seen = λ h is. next.seen h (first.seen h is);
  keeps = λ concerned known. next.keeps concerned (first.keeps concerned known);
  areas = first.areas ++ next.areas;
  lists = next.lists ∙ (ap (λ (d : GridList). added_all_in d next.areas) first.lists ∙ sym (fold-append added_in p first.areas next.areas));
  owes =
      subst (λ (rs : List Rect). IsPermutation rs (owing named a scene)) (sym (append_assoc first.areas next.areas (owing None c scene)))
      (IsPermutation-trans (first.areas ++ (next.areas ++ owing None c scene)) (first.areas ++ owing None b scene) (owing named a scene)
      (IsPermutation-append_right first.areas (next.areas ++ owing None c scene) (owing None b scene) next.owes) first.owes);
}

-- where it is seen, nothing is owed
pub seen-owes : (scene : Scene) (t : Table Seen) (h : ℕ) (s : Seen) → value_at t h ≡ Some s → IsSeen scene h s → owed_again None t scene h ≡ []
seen-owes scene t h s found seen =
    ap (λ (o : Option Seen). owed false (sight_of o) (sight_in scene h)) found ∙ seen-owed scene h s seen

some-seen : (scene : Scene) (t : Table Seen) (h : ℕ) → is_some (value_at t h) ≡ true → IsSeenIn t scene h → owed_again None t scene h ≡ []
some-seen scene t h some seen = by (value_at t h) refl where
  by : (o : Option Seen) → value_at t h ≡ o → owed_again None t scene h ≡ []
  by None e = absurd (false≢true (sym (ap is_some e) ∙ some))
  by (Some s) e = seen-owes scene t h s e (seen s e)

-- what is named is not shown: so it owes nothing, and nothing is seen again
module _ (scene : Scene) (named : Option ℕ) (t : Table Seen) (shown : KnowsShown t scene) (h : ℕ) (others : (k : ℕ) → eqb h k ≡ false → is_named named k ≡ false) where
  unnamed : (k : ℕ) → eqb h k ≡ false → owed_again None t scene k ≡ owed_again named t scene k
  unnamed k other = ap (λ (b : Bool). owed b (sight_of (value_at t k)) (sight_in scene k)) (sym (others k other))

  pub hidden-again : (damage : GridList) → is_some (value_at t h) ≡ false → SeesAgain named scene t t damage damage
  hidden-again damage none =
      let off : times_of (order scene) h ≡ 0 = order-times scene h ∙ count-off (handles_of (shown_trees scene)) h (sym (shown-has scene t shown h) ∙ none) in
      record {
        listing = refl;
        seen = λ k is. is;
        keeps = λ concerned known. known;
        areas = [];
        lists = refl;
        owes = same-order (owing None t scene) (owing named t scene) (same-off (owed_again named t scene) (owed_again None t scene) h unnamed (order scene) off);
      }

-- listed objects are seen again, of each of which something is known
module _ (scene : Scene) (valid : IsValid scene) (named : Option ℕ) (old new : Table Seen) (hs : List Handle) (shown : KnowsShown old scene) (some : AreKnown old hs) (once : (k : ℕ) → times hs k ≤ 1)
    (others : (k : ℕ) → times hs k ≡ 0 → is_named named k ≡ false) (listing : listing_of new ≡ listing_of old) (seen : AreSeenOf new scene hs) (rest : KeepRest old new hs) where
  listed-seen : (k : ℕ) → IsSeenIn old scene k → IsSeenIn new scene k
  listed-seen k was s found = elim (cases_Bool (nat_lt 0 (times hs k))) [
    | inl more ↦ seen k s (grind (arith, nat_tests, more)) found
    | inr none ↦ let zero : times hs k ≡ 0 = grind (arith, nat_tests, none) in was s (sym (rest k zero) ∙ found)
  ]

  listed-keeps : (concerned : Concerned) → KeepOthers old concerned scene → KeepOthers new concerned scene
  listed-keeps concerned known k s there off found = elim (cases_Bool (nat_lt 0 (times hs k))) [
    | inl more ↦ (seen k s (grind (arith, nat_tests, more)) found).keeps
    | inr none ↦ let zero : times hs k ≡ 0 = grind (arith, nat_tests, none) in known k s there off (sym (rest k zero) ∙ found)
  ]

  owes-nothing : (k : ℕ) → 0 < times hs k → owed_again None new scene k ≡ []
  owes-nothing k more = some-seen scene new k (known-still old new listing k ∙ some k more) (λ s found. seen k s more found)

  owes-still : (k : ℕ) → times hs k ≡ 0 → owed_again None new scene k ≡ owed_again named old scene k
  owes-still k zero =
      ap (λ (o : Option Seen). owed false (sight_of o) (sight_in scene k)) (rest k zero)
      ∙ ap (λ (b : Bool). owed b (sight_of (value_at old k)) (sight_in scene k)) (sym (others k zero))

  order-once : (k : ℕ) → times_of (order scene) k ≤ 1
  order-once k = let a = shown_once scene valid k in let b = order-times scene k in omega (arith, a, b)

  fewer : (k : ℕ) → times hs k ≤ times_of (order scene) k
  fewer k = elim (cases_Bool (nat_lt 0 (times hs k))) [
    | inl more ↦
        let listed : 0 < times hs k = grind (arith, nat_tests, more) in
        let a = once k in
        let b = order-times scene k in
        let d = count-has (handles_of (shown_trees scene)) k (sym (shown-has scene old shown k) ∙ some k listed) in
        omega (arith, a, b, d)
    | inr none ↦ let zero : times hs k ≡ 0 = grind (arith, nat_tests, none) in omega (arith, zero)
  ]

  pub listed-again : (before after : GridList) → after ≡ added_all_in before (flat_map (owed_again named old scene) (numbers hs)) → SeesAgain named scene old new before after
  listed-again before after lists = record {
    listing = listing;
    seen = listed-seen;
    keeps = listed-keeps;
    areas = flat_map (owed_again named old scene) (numbers hs);
    lists = lists;
    owes = all-first (owed_again named old scene) (order scene) order-once hs (owed_again None new scene) owes-nothing owes-still fewer;
  }

sum-none : (g : ℕ → List Rect) (ns : List ℕ) → ((k : ℕ) → 0 < times_of ns k → g k ≡ []) → flat_map g ns ≡ []
sum-none g [] each = refl
sum-none g (n ∷ ns) each =
    let own : g n ≡ [] = each n (rw (eq-eqb n n refl) (omega arith)) in
    let rest : flat_map g ns ≡ [] = sum-none g ns (λ k some. each k (omega (arith, some))) in
    rw (own, rest) refl

-- where all are seen, nothing is left
pub all-owed : (scene : Scene) (t : Table Seen) → AreSeen t scene → KnowsShown t scene → owing None t scene ≡ []
all-owed scene t seen shown = sum-none (owed_again None t scene) (order scene) (λ k more.
    let here : has (handles_of (shown_trees scene)) k ≡ true = true-of (has (handles_of (shown_trees scene)) k) (λ out. let a = order-times scene k in let b = count-off (handles_of (shown_trees scene)) k out in absurd (omega (arith, a, b, more))) in
    some-seen scene t k (shown-has scene t shown k ∙ here) (seen k)) where
      true-of : (b : Bool) → (b ≡ false → ⊥) → b ≡ true
      true-of true other = refl
      true-of false other = absurd (other refl)
