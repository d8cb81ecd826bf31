use Rattle.std.proofs.Common.{◌≡◌, ◌∙◌, ◌<◌, sym, ap, subst, ℕ, Bool, true, false, eqb, eq-eqb, length, List, set, get_or, Some, inl, inr, rules}
use Rattle.std.proofs.lemmas.Bool.{both_ways, cases_Bool, eqb-true, false≢true, false_from_ne_true, or_left, or_right}
use Rattle.gui_base.specs.Forest.{Forest, has, parent_of, path_of}
use Rattle.gui_boxes.specs.Frames.{Encloses}
use Rattle.gui_boxes.specs.Settled.{Layout}
use Rattle.gui_boxes.specs.Tables.{IsListed, Listing, listing_of, told, touched_or}
use Rattle.gui_boxes.specs.Touched.{is_touched}
use Rattle.gui_boxes.proofs.Listed.{told_short}
use Rattle.gui_layout.specs.Calm.{IsClosedBut, is_up}
use Rattle.gui_layout.proofs.Climbing.{is_above, up_own, up_some}
use Rattle.gui_layout.proofs.ClosedUp.{closed_own, now_closed, now_more, now_other, now_own}
use Rattle.gui_layout.proofs.touching.+touch_up.Goals as goal
use Rattle.gui_layout.proofs.touching.+touch_up.Goals.{After-touch}

pub is_touched-requires : goal.is_touched-requires
is_touched-requires t c = c.requires.listed c.args.h.0 (λ k i. i) c.requires.there

pub touch-requires : goal.touch-requires
touch-requires t c = c.requires.listed c.args.h.0 (λ k i. i) c.requires.there

module _ (t : ℕ) (c : After-touch t) where
  abbrev f : Forest ℕ
  f = c.args.tree.now.forest

  abbrev h : ℕ
  h = c.args.h.0

  abbrev ts : List Bool
  ts = (told c.args.entries.now).touched

  abbrev now : ℕ → Bool
  now = is_touched (told c.touch.new.entries)

  short : h < length ts
  short = told_short touched_or c.args.entries.now h (c.requires.listed h (λ k i. i) c.requires.there)

  set_is : (told c.touch.new.entries).touched ≡ set ts h true
  set_is = ap (λ (l : Layout). l.touched) c.touch.ensures.set

  own_is : now h ≡ true
  own_is = ap (λ us. get_or us h false) set_is ∙ now_own ts h short

  more_is : (k : ℕ) → is_touched (told c.args.entries.now) k ≡ true → now k ≡ true
  more_is k is = ap (λ us. get_or us k false) set_is ∙ now_more ts h short k is

  closed_is : (s : ℕ → Bool) → IsClosedBut f s (is_touched (told c.args.entries.now)) h → (k p : ℕ) → has f k ≡ true → s k ≡ true → now k ≡ true → parent_of f k ≡ Some p → (eqb k h ≡ true → now p ≡ true) → now p ≡ true
  closed_is s but = subst (λ us. (k p : ℕ) → has f k ≡ true → s k ≡ true → get_or us k false ≡ true → parent_of f k ≡ Some p → (eqb k h ≡ true → get_or us p false ≡ true) → get_or us p false ≡ true) (sym set_is) (now_closed ts h short f s but)

  -- what was not touched is not but for it
  other_is : (k : ℕ) → eqb k h ≡ false → now k ≡ is_touched (told c.args.entries.now) k
  other_is k other = ap (λ us. get_or us k false) set_is ∙ now_other ts h short k other

pub touch_up-requires : goal.touch_up-requires
touch_up-requires t c =
    let d = (goal.at.touch_up-requires t c).After-touch in
    let g = f t d in
    let up = is_above g c.args.h.0 c.in-Some.parent c.requires.once c.requires.there c.in-Some.ensures in
    let higher : length (path_of g c.in-Some.parent.0) < length (path_of g c.args.h.0) = up.higher in
    let listed : (k : ℕ) → Encloses g k c.in-Some.parent.0 → has g k ≡ true → IsListed (listing_of c.touch.new.entries) k =
    λ k encloses there. subst (λ (ks : Listing). IsListed ks k) (sym c.touch.ensures.listed) (c.requires.listed k (λ j i. encloses j (up.encloses j i)) there) in
    (search rules, (c.requires.once, (up.there, listed)))

pub returns-then-is_touched-clause-closed : goal.returns-then-is_touched-clause-closed
returns-then-is_touched-clause-closed t c s but = closed_own c.args.tree.now.forest s (is_touched (told c.args.entries.now)) c.args.h.0 but (sym c.is_touched.ensures ∙ c.if-is_touched.true)

pub returns-then-is_touched-clause-above : goal.returns-then-is_touched-clause-above
returns-then-is_touched-clause-above t c k was is = absurd (false≢true (sym was ∙ is))

pub returns-in-Some-clause-closed : goal.returns-in-Some-clause-closed
returns-in-Some-clause-closed t c s but =
    let d = (goal.at.returns-in-Some-clause-closed t c).After-touch in
    let g = f t d in
    let q = c.in-Some.parent.0 in
    let up = is_above g c.args.h.0 c.in-Some.parent c.requires.once c.requires.there c.in-Some.ensures in
    c.touch_up.ensures.closed s (λ k p i looked is parent out.
    closed_is t d s but k p i looked is parent (λ same.
    let top : Some p ≡ Some q = sym parent ∙ (ap (parent_of g) (eqb-true k c.args.h.0 same) ∙ up.parent) in
    let e : p ≡ q = cc in absurd (both_ways (eqb p q) out (eq-eqb p q e))))

pub returns-in-Some-clause-own : goal.returns-in-Some-clause-own
returns-in-Some-clause-own t c = c.touch_up.ensures.more c.args.h.0 (own_is t (goal.at.returns-in-Some-clause-own t c).After-touch)

pub returns-in-Some-clause-more : goal.returns-in-Some-clause-more
returns-in-Some-clause-more t c k is = c.touch_up.ensures.more k (more_is t (goal.at.returns-in-Some-clause-more t c).After-touch k is)

pub returns-in-Some-clause-above : goal.returns-in-Some-clause-above
returns-in-Some-clause-above t c k was is =
    let d = (goal.at.returns-in-Some-clause-above t c).After-touch in
    let g = f t d in
    let h = c.args.h.0 in
    up_some g h k c.in-Some.parent c.requires.once c.requires.there c.in-Some.ensures
    ∙ elim (cases_Bool (eqb h k)) [
      | inl same ↦ or_left _ _ same
      | inr other ↦ or_right _ _ (c.touch_up.ensures.above k (other_is t d k (false_from_ne_true (eqb k h) (λ e. both_ways (eqb h k) other (eq-eqb h k (sym (eqb-true k h e))))) ∙ was) is)
    ]

pub returns-in_default-clause-above : goal.returns-in_default-clause-above
returns-in_default-clause-above t c k was is =
    let d = (goal.at.returns-in_default-clause-above t c).After-touch in
    let h = c.args.h.0 in
    elim (cases_Bool (eqb k h)) [
      | inl same ↦ subst (λ j. is_up c.args.tree.now.forest j h ≡ true) (sym (eqb-true k h same)) (up_own c.args.tree.now.forest h c.requires.once c.requires.there)
      | inr other ↦ absurd (false≢true (sym was ∙ (sym (other_is t d k other) ∙ is)))
    ]
