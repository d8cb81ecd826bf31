-- How far children reach and are moved, found tree by tree with the slots.
use Rattle.std.proofs.Common.{◌≡◌, ◌≢◌, ◌∙◌, refl, sym, ap, ℕ, ◌<◌, ◌-◌, min, inl, inr, Bool, true, false, eqb, ◌||◌, List, [], length, get_or, map, set, eq-eqb, arith}
use Rattle.std.proofs.lemmas.List.{get_or-set_same, get_or-set_other, length-set}
use Rattle.std.proofs.lemmas.Bool.{cases_Bool, false≢true, false_from_ne_true, or_parts, or_left, or_right, both_ways}
use Rattle.gui_base.specs.Forest.{Forest, Empty, Tree, has, has_by, roots}
use Rattle.layout_defs.specs.Boxes.{Box}
use Rattle.layout_defs.specs.Solving.{Tall, Slot, Span, nowhere, no_span, room_of, kid_reach, kid_slots, offset_of}
use Rattle.layout_defs.specs.Tables.{KeepsOthers}
use Rattle.gui_boxes.specs.Slots.{tall_at, talls, at_roots}
use Rattle.gui_boxes.specs.Scrolls.{Scrolled, not_scrolled, scrolled_by, scrolled_in}
use Rattle.gui_boxes.specs.Touched.{HoldsScrollsIf, IfTouched, IsClosed}
use Rattle.gui_boxes.proofs.Touched.{touched_pass, closed_agree, fit_agree}
use Rattle.gui_tree.proofs.Parts.{IsDistinct}
use Rattle.gui_boxes.specs.Kids.{told_trees}
use Rattle.gui_boxes.specs.Settled.{Layout, EachKids, SlotsFit, slot_of, tall_of}
use Rattle.gui_boxes.specs.Views.{box_at}
use Rattle.gui_boxes.proofs.Keeps.{keeps_none, keeps_first, keeps_then, apart, elsewhere}
use Rattle.gui_boxes.proofs.Fitting.{tall_roots}
use Rattle.gui_boxes.proofs.Passes.{Pass, slots_pass, trees_by, Lowers, lowers_none, lowers_first, lowers_top, roots_read}

none-out : (w h : ℕ) → ◌≡◌ {A = Span} (record { across = 0 - w; down = 0 - h }) no_span
none-out w h =
    let a : 0 - w ≡ 0 = omega arith in
    let b : 0 - h ≡ 0 = omega arith in
    rw (a, b) refl

-- an object without children reaches nowhere and moves nothing
reach-none : (tall : Tall) (slot : Slot) → kid_reach tall slot [] ≡ no_span
reach-none tall slot = none-out (room_of tall slot).width (room_of tall slot).height

offset-none : (box : Box) → offset_of box no_span ≡ no_span
offset-none box = elim (cases_Bool box.scrollable) [
  | inl can ↦
      let a : min box.across.scroll 0 ≡ 0 = omega arith in
      let b : min box.down.scroll 0 ≡ 0 = omega arith in
      rw (can, a, b) refl
  | inr cannot ↦ rw cannot refl
]

pub scrolled-none : (tall : Tall) (slot : Slot) → scrolled_in tall slot [] ≡ not_scrolled
scrolled-none tall slot =
    ap (scrolled_by tall.box) (reach-none tall slot) ∙ ap (λ (o : Span). record { reach = no_span; offset = o }) (offset-none tall.box)

-- one entry is set, and then those below it
pub keeps_under : {V : Type 0} (d : V) (r u : List V) (h : ℕ) (v : V) (cs : Forest ℕ) → KeepsOthers d (set r h v) u cs → KeepsOthers d r u (Tree h cs Empty)
keeps_under d r u h v cs lower = record {
  long = lower.long ∙ length-set r h v;
  others = λ k out.
      let p : (eqb h k ≡ false) × ((has cs k || false) ≡ false) = or_parts _ _ out in
      let q : (has cs k ≡ false) × (false ≡ false) = or_parts _ _ p.1 in
      let other : k ≢ h = λ e. both_ways _ p.0 (eq-eqb h k (sym e)) in
      lower.others k q.0 ∙ get_or-set_other r h k v d other;
}

module _ (box : ℕ → Box) (widths naturals : List ℕ) where
  -- where the slots and the reaches of these trees stay, and the same of them are touched, all is held still
  pub reaches-kept : (t u : ℕ → Bool) (s z : List Slot) (r v : List Scrolled) (f : Forest ℕ) → ((k : ℕ) → has f k ≡ true → u k ≡ t k) → ((k : ℕ) → has f k ≡ true → get_or z k nowhere ≡ get_or s k nowhere) →
      ((k : ℕ) → has f k ≡ true → get_or v k not_scrolled ≡ get_or r k not_scrolled) → HoldsScrollsIf t box widths naturals s r f → HoldsScrollsIf u box widths naturals z v f
  reaches-kept t u s z r v Empty agree stand stay holds = tt
  reaches-kept t u s z r v (Tree h cs rest) agree stand stay holds =
      let here : has (Tree h cs rest) h ≡ true = or_left _ _ (eq-eqb h h refl) in (
        λ is. stay h here ∙ (holds.0 (sym (agree h here) ∙ is) ∙ ap (λ (slot : Slot). scrolled_in (tall_at box widths naturals h) slot (roots (talls box widths naturals cs))) (sym (stand h here))),
        reaches-kept t u s z r v cs (λ k i. agree k (or_right _ _ (or_left _ _ i))) (λ k i. stand k (or_right _ _ (or_left _ _ i))) (λ k i. stay k (or_right _ _ (or_left _ _ i))) holds.1,
        reaches-kept t u s z r v rest (λ k i. agree k (or_right _ _ (or_right _ _ i))) (λ k i. stand k (or_right _ _ (or_right _ _ i))) (λ k i. stay k (or_right _ _ (or_right _ _ i))) holds.2,
      )

  -- where none is touched there is nothing to hold
  pub reaches-calm : (t : ℕ → Bool) (s : List Slot) (r : List Scrolled) (f : Forest ℕ) → has_by t f ≡ false → HoldsScrollsIf t box widths naturals s r f
  reaches-calm t s r Empty none = tt
  reaches-calm t s r (Tree h cs rest) none =
      let p : (t h ≡ false) × ((has_by t cs || has_by t rest) ≡ false) = or_parts _ _ none in
      let q : (has_by t cs ≡ false) × (has_by t rest ≡ false) = or_parts _ _ p.1 in
      (λ is. absurd (false≢true (sym p.0 ∙ is)), reaches-calm t s r cs q.0, reaches-calm t s r rest q.1)

module _ (l : Layout) where
  abbrev box : ℕ → Box
  box = box_at l.boxes

  abbrev p : Pass Slot
  p = slots_pass l

  abbrev Told : (ℕ → Bool) → List Slot → List Scrolled → Forest ℕ → Type 0
  Told u slots scrolls f = HoldsScrollsIf u box l.widths l.natural_heights slots scrolls f

  -- the tree of an object gets its slots and its reaches, of those that are touched, told by u
  pub record Reaches (u : ℕ → Bool) (old new : List Slot) (was now : List Scrolled) (h : ℕ) (cs : Forest ℕ) : Type 0 where
    pub found : EachKids (IfTouched u SlotsFit) (trees_by p new (Tree h cs Empty))
    pub below : KeepsOthers nowhere old new cs
    pub scrolled : Told u new now (Tree h cs Empty)
    pub others : KeepsOthers not_scrolled was now (Tree h cs Empty)

  pub reaches_leaf : (u : ℕ → Bool) (t : List Slot) (r : List Scrolled) (h : ℕ) → h < length r → Reaches u t t r (set r h not_scrolled) h Empty
  reaches_leaf u t r h short = record {
    found = (λ is. refl, tt, tt);
    below = keeps_none nowhere t;
    scrolled = (λ is. get_or-set_same r h not_scrolled not_scrolled short ∙ sym (scrolled-none (tall_at box l.widths l.natural_heights h) (get_or t h nowhere)), tt, tt);
    others = keeps_under not_scrolled r (set r h not_scrolled) h not_scrolled Empty (keeps_none not_scrolled (set r h not_scrolled));
  }

  -- More is touched in these trees, told by u in place of t, and all that is gets its own, but for the slots of
  -- the roots.
  pub record Reached (t u : ℕ → Bool) (old new : List Slot) (was now : List Scrolled) (f : Forest ℕ) : Type 0 where
    pub stands : Lowers (touched_pass u p) old new f
    pub scrolled : Told u new now f
    pub others : KeepsOthers not_scrolled was now f
    pub closed : IsClosed u f
    pub touches : (k : ℕ) → has f k ≡ false → u k ≡ t k

  pub reached_none : (u : ℕ → Bool) (t : List Slot) (r : List Scrolled) → Reached u u t t r r Empty
  reached_none u t r = record { stands = lowers_none (touched_pass u p) t; scrolled = tt; others = keeps_none not_scrolled r; closed = tt; touches = λ k out. refl }

  pub reached_first : (t w u : ℕ → Bool) (a b c : List Slot) (r s v : List Scrolled) (h : ℕ) (cs rest : Forest ℕ) → IsDistinct (Tree h cs rest) → Reaches w a b r s h cs → IsClosed w (Tree h cs Empty) → ((k : ℕ) → has cs k ≡ false → w k ≡ t k) →
      Reached w u b c s v rest → Reached t u a c r v (Tree h cs rest)
  reached_first t w u a b c r s v h cs rest distinct first closed touches later =
      let agree : (k : ℕ) → has (Tree h cs Empty) k ≡ true → u k ≡ w k = λ k i. later.touches k (false_from_ne_true (has rest k) (elsewhere h cs rest distinct k i)) in
      let seen = fit_agree w u SlotsFit (record l { slots = b }) (Tree h cs Empty) agree first.found in
      let shut = closed_agree w u (Tree h cs Empty) agree closed in
      let same = reaches-kept box l.widths l.natural_heights w u b c s v (Tree h cs Empty) agree (apart nowhere b c h cs rest distinct later.stands.finds.others) (apart not_scrolled s v h cs rest distinct later.others) first.scrolled in
      record {
        stands = lowers_first (touched_pass u p) a b c h cs rest distinct seen first.below later.stands;
        scrolled = (same.0, same.1, later.scrolled);
        others = keeps_first not_scrolled r s v h cs rest first.others later.others;
        closed = (shut.0, shut.1, later.closed);
        touches = λ k out.
            let o : (eqb h k ≡ false) × ((has cs k || has rest k) ≡ false) = or_parts _ _ out in
            let q : (has cs k ≡ false) × (has rest k ≡ false) = or_parts _ _ o.1 in
            later.touches k q.1 ∙ touches k q.0;
      }

  -- an object whose children have their slots, and whose reach is set
  pub reached_top : (t u : ℕ → Bool) (a b c : List Slot) (r v : List Scrolled) (h : ℕ) (cs : Forest ℕ) → has cs h ≡ false → h < length r →
      at_roots b cs ≡ kid_slots (tall_at box l.widths l.natural_heights h) (get_or a h nowhere) (map tall_of (roots (told_trees l cs))) →
      KeepsOthers nowhere a b cs → Reached t u b c (set r h (scrolled_in (tall_at box l.widths l.natural_heights h) (get_or a h nowhere) (map tall_of (roots (told_trees l cs))))) v cs → Reaches u a c r v h cs
  reached_top t u a b c r v h cs out short kids set_kids lower =
      let tall = tall_at box l.widths l.natural_heights h in
      let below = map tall_of (roots (told_trees l cs)) in
      let reach = scrolled_in tall (get_or a h nowhere) below in
      let set_own : get_or b h nowhere ≡ get_or a h nowhere = set_kids.others h out in
      let stays : get_or c h nowhere ≡ get_or a h nowhere = lower.stands.finds.others.others h out ∙ set_own in
      let fits : SlotsFit (p.by b h) (roots (trees_by p b cs)) =
      roots_read slot_of (p.by b) cs
      ∙ (kids ∙ (ap (λ (slot : Slot). kid_slots tall slot below) (sym set_own) ∙ ap (kid_slots tall (get_or b h nowhere)) (roots_read tall_of (p.by l.slots) cs ∙ sym (roots_read tall_of (p.by b) cs)))) in
      record {
        found = lowers_top (touched_pass u p) b c h cs out (λ is. fits) lower.stands;
        below = keeps_then nowhere a b c cs set_kids lower.stands.finds.others;
        scrolled = (
          λ is.
              lower.others.others h out
              ∙ (get_or-set_same r h reach not_scrolled short ∙ (ap (λ (slot : Slot). scrolled_in tall slot below) (sym stays) ∙ ap (scrolled_in tall (get_or c h nowhere)) (sym (tall_roots box l cs)))),
          lower.scrolled,
          tt,
        );
        others = keeps_under not_scrolled r v h reach cs lower.others;
      }
