-- How far the children of an object reach without one of them.
use Rattle.std.proofs.Common.{◌≡◌, ◌∙◌, ◌-◌, refl, sym, ap, subst, ℕ, Bool, true, false, max, cond, eqb, List, [], ◌∷◌, map, get_or, inl, inr, arith}
use Rattle.std.proofs.lemmas.Bool.{cases_Bool, eqb-true, false≢true, or_left, or_right}
use Rattle.gui_base.specs.Forest.{Forest, Empty, Tree, children_of, map_forest, roots}
use Rattle.layout_defs.specs.Boxes.{Box}
use Rattle.layout_defs.specs.OwnHeights.{but_height}
use Rattle.layout_defs.specs.Solving.{Slot, Span, Tall, end_across, end_down, far_end, no_span, nowhere, reach_in, room_of}
use Rattle.layout_defs.proofs.OwnHeights.{roots-map}
use Rattle.gui_boxes.specs.declared.entry.Entry.{Entry}
use Rattle.gui_boxes.specs.Around.{IsFlatWithout, SparesOne, flat_of, out_of, without}
use Rattle.gui_boxes.specs.Kids.{told_trees}
use Rattle.gui_layout.specs.Marked.{is_root}
use Rattle.gui_boxes.specs.Scrolls.{Scrolled, scrolled_at, span_of}
use Rattle.gui_boxes.specs.Settled.{Known, Layout, known_at, slot_of, tall_of}
use Rattle.gui_boxes.specs.Sizings.{kid_by}
use Rattle.gui_boxes.specs.Slots.{at_roots, slot_at, tall_at}
use Rattle.gui_boxes.specs.Tables.{IsEntry}
use Rattle.gui_boxes.specs.Views.{box_at}
use Rattle.gui_layout.proofs.Alike.{inside-alike}
use Rattle.gui_boxes.proofs.Fitting.{tall_roots}
use Rattle.gui_boxes.proofs.Kids.{kid_told}
use Rattle.gui_layout.proofs.Overs.{kids-same}
use Rattle.gui_boxes.proofs.Passes.{roots_read}

abbrev reaches : Span → Scrolled
reaches r = record { reach = r; offset = no_span }

-- It goes by the roots of the trees alone.
abbrev flat_by : Layout → ℕ → List Known → List Slot → Scrolled
flat_by l k kids slots = reaches (reach_in (room_of (tall_at (box_at l.boxes) l.widths l.natural_heights k) (slot_at l.slots k)) (map tall_of kids) slots)

pub flat-kids : (l : Layout) (k : ℕ) (g h : Forest ℕ) → roots g ≡ roots h → flat_of l k g ≡ flat_of l k h
flat-kids l k g h same =
    let known = known_at (box_at l.boxes) l in
    let kids : roots (told_trees l g) ≡ roots (told_trees l h) = roots-map known g ∙ (ap (map known) same ∙ sym (roots-map known h)) in
    ap (λ ks. flat_by l k ks (at_roots l.slots g)) kids
    ∙ ap (λ (hs : List ℕ). flat_by l k (roots (told_trees l h)) (map (λ j. get_or l.slots j nowhere) hs)) same

-- One end of the children, child by child.
skip : (hidden on : Bool) (end rest others : ℕ) → rest ≡ max others (cond on (cond hidden 0 (max end 0)) 0) → cond hidden rest (max end rest) ≡ max others (cond hidden 0 (max end 0))
skip true true end rest others is = is
skip true false end rest others is = is
skip false true end rest others is = omega (arith, is)
skip false false end rest others is = omega (arith, is)

keep : (hidden on : Bool) (end rest others one : ℕ) → rest ≡ max others (cond on one 0) → cond hidden rest (max end rest) ≡ max (cond hidden others (max end others)) (cond on one 0)
keep true on end rest others one is = is
keep false true end rest others one is = omega (arith, is)
keep false false end rest others one is = omega (arith, is)

module _ (end : Tall → Slot → ℕ) (l : Layout) where
  abbrev far : Forest ℕ → ℕ
  far g = far_end end (map tall_of (roots (told_trees l g))) (at_roots l.slots g)

  abbrev alone : ℕ → ℕ
  alone u = far_end end (tall_of (known_at (box_at l.boxes) l u) ∷ []) (slot_at l.slots u ∷ [])

  far-without : (u : ℕ) (g : Forest ℕ) → far g ≡ max (far (without u g)) (cond (is_root u g) (alone u) 0)
  far-without u Empty = refl
  far-without u (Tree h cs rest) =
      let kid = known_at (box_at l.boxes) l h in
      let later = far-without u rest in
      elim (cases_Bool (eqb h u)) [
        | inl is ↦
            let same = eqb-true h u is in
            let here : far rest ≡ max (far (without u rest)) (cond (is_root u rest) (alone h) 0) = subst (λ j. far rest ≡ max (far (without u rest)) (cond (is_root u rest) (alone j) 0)) (sym same) later in
            rw is (subst (λ j. far (Tree h cs rest) ≡ max (far (without u rest)) (alone j)) same (skip kid.box.hidden (is_root u rest) (end (tall_of kid) kid.slot) (far rest) (far (without u rest)) here))
        | inr other ↦ rw other (keep kid.box.hidden (is_root u rest) (end (tall_of kid) kid.slot) (far rest) (far (without u rest)) (alone u) later)
      ]

inside : (on : Bool) (all others one room : ℕ) → all ≡ max others (cond on one 0) → all - room ≡ max (others - room) (cond on (one - room) 0)
inside true all others one room is = omega (arith, is)
inside false all others one room is = omega (arith, is)

-- all reach as far as the others or the one
module _ (l : Layout) (k u : ℕ) (g : Forest ℕ) where
  abbrev out : Span
  out = out_of (known_at (box_at l.boxes) l k) (known_at (box_at l.boxes) l u)

  abbrev here : Span
  here = (flat_of l k g).reach

  abbrev less : Span
  less = (flat_of l k (without u g)).reach

  across-without : here.across ≡ max less.across (cond (is_root u g) out.across 0)
  across-without =
      let room = room_of (tall_at (box_at l.boxes) l.widths l.natural_heights k) (slot_at l.slots k) in
      inside (is_root u g) (far (end_across room) l g) (far (end_across room) l (without u g)) (alone (end_across room) l u) room.width (far-without (end_across room) l u g)

  down-without : here.down ≡ max less.down (cond (is_root u g) out.down 0)
  down-without =
      let room = room_of (tall_at (box_at l.boxes) l.widths l.natural_heights k) (slot_at l.slots k) in
      inside (is_root u g) (far (end_down room) l g) (far (end_down room) l (without u g)) (alone (end_down room) l u) room.height (far-without (end_down room) l u g)

spared : (on : Bool) (all others one : ℕ) → (all ≡ max others one → all ≡ others) → all ≡ max others (cond on one 0) → all ≡ others
spared true all others one less is = less is
spared false all others one less is = omega (arith, is)

-- What two entries tell.
module _ (f : Forest ℕ) (l : Layout) (u k : ℕ) (own kid : Entry) (is_own : IsEntry l k own) (is_kid : IsEntry l u kid) where
  abbrev cs : Forest ℕ
  cs = children_of f k

  abbrev by : Span
  by = out_of (kid_by k own) (kid_by u kid)

  by-told : by ≡ out l k u cs
  by-told = ap (λ p. out_of p (kid_by u kid)) (kid_told l k own is_own) ∙ ap (out_of (known_at (box_at l.boxes) l k)) (kid_told l u kid is_kid)

  abbrev told : Span
  told = span_of own.scrolled.reach

  told-read : (s : Scrolled) → scrolled_at l.scrolls k ≡ s → told ≡ s.reach
  told-read s is = ap (λ (r : Scrolled). r.reach) (is_own.scrolled ∙ is)

  -- where the others reach as far as all, the one is spared
  pub spares-one : own.wanted.scrollable ≡ false → ((others : ℕ) → told.across ≡ max others by.across → told.across ≡ others) → ((others : ℕ) → told.down ≡ max others by.down → told.down ≡ others) → SparesOne f l u k
  spares-one still across down = record {
    still = off;
    spares = λ flat. record {
      still = off;
      read =
          let all : told ≡ here l k u cs = told-read (flat_of l k cs) flat.read in
          let a : told.across ≡ (less l k u cs).across = spared (is_root u cs) told.across (less l k u cs).across by.across (across (less l k u cs).across) (ap (λ (r : Span). r.across) all ∙ (across-without l k u cs ∙ ap (λ (r : Span). max (less l k u cs).across (cond (is_root u cs) r.across 0)) (sym by-told))) in
          let d : told.down ≡ (less l k u cs).down = spared (is_root u cs) told.down (less l k u cs).down by.down (down (less l k u cs).down) (ap (λ (r : Span). r.down) all ∙ (down-without l k u cs ∙ ap (λ (r : Span). max (less l k u cs).down (cond (is_root u cs) r.down 0)) (sym by-told))) in
          let same : told ≡ less l k u cs = λ i. record { across = a i; down = d i } in
          flat.read ∙ ap reaches (sym all ∙ same);
    };
  }
    where
      off : (box_at l.boxes k).scrollable ≡ false
      off = ap (λ (b : Box). b.scrollable) (sym is_own.wanted) ∙ still

  -- and where it is one of the children, all reach as far as the others or it
  pub with-one : is_root u cs ≡ true → IsFlatWithout f l u k → (across down : ℕ) → across ≡ max told.across by.across → down ≡ max told.down by.down → reaches (record { across = across; down = down }) ≡ flat_of l k cs
  with-one kid_is flat across down is_across is_down =
      let less_told : told ≡ less l k u cs = told-read (flat_of l k (without u cs)) flat.read in
      let on : (n : ℕ) → cond (is_root u cs) n 0 ≡ n = λ n. ap (λ b. cond b n 0) kid_is in
      let a : across ≡ (here l k u cs).across = is_across ∙ (ap (λ (r : Span). max r.across by.across) less_told ∙ (ap (λ (r : Span). max (less l k u cs).across r.across) by-told ∙ (ap (max (less l k u cs).across) (sym (on (out l k u cs).across)) ∙ sym (across-without l k u cs)))) in
      let d : down ≡ (here l k u cs).down = is_down ∙ (ap (λ (r : Span). max r.down by.down) less_told ∙ (ap (λ (r : Span). max (less l k u cs).down r.down) by-told ∙ (ap (max (less l k u cs).down) (sym (on (out l k u cs).down)) ∙ sym (down-without l k u cs)))) in
      let same : ◌≡◌ {A = Span} (record { across = across; down = down }) (here l k u cs) = λ i. record { across = a i; down = d i } in
      ap reaches same

-- Trees whose roots are told alike reach as far.
module _ (box : ℕ → Box) (l : Layout) (k : ℕ) (g : Forest ℕ) where
  abbrev known : ℕ → Known
  known = known_at box l

  abbrev flat_known : Known → List Known → Scrolled
  flat_known p kids = reaches (reach_in (room_of (tall_of p) p.slot) (map tall_of kids) (map slot_of kids))

  flat-known : but_height (box_at l.boxes k) ≡ but_height (box k) → ((j : ℕ) → is_root j g ≡ true → but_height (box_at l.boxes j) ≡ but_height (box j)) → flat_of l k g ≡ flat_known (known k) (roots (map_forest known g))
  flat-known same all =
      let slot = slot_at l.slots k in
      let room = room_of (tall_of (known k)) slot in
      ap reaches
      (ap (λ (ts : List Tall). reach_in (room_of (tall_at (box_at l.boxes) l.widths l.natural_heights k) slot) ts (at_roots l.slots g)) (sym (tall_roots (box_at l.boxes) l g))
      ∙ (inside-alike (box_at l.boxes) box l.widths l.natural_heights k slot g (at_roots l.slots g) same all
      ∙ (ap (λ (ts : List Tall). reach_in room ts (at_roots l.slots g)) (tall_roots box l g)
      ∙ ap (λ (ss : List Slot). reach_in room (map tall_of (roots (map_forest known g))) ss) (sym (roots_read slot_of known g)))))

pub flat-alike : (box : ℕ → Box) (old new : Layout) (k : ℕ) (g : Forest ℕ) → but_height (box_at old.boxes k) ≡ but_height (box k) → but_height (box_at new.boxes k) ≡ but_height (box k) → known_at box new k ≡ known_at box old k →
    ((j : ℕ) → is_root j g ≡ true → but_height (box_at old.boxes j) ≡ but_height (box j)) → ((j : ℕ) → is_root j g ≡ true → but_height (box_at new.boxes j) ≡ but_height (box j)) → ((j : ℕ) → is_root j g ≡ true → known_at box new j ≡ known_at box old j) →
    flat_of new k g ≡ flat_of old k g
flat-alike box old new k g was now same kids_were kids_are kids_same =
    flat-known box new k g now kids_are
    ∙ (ap (λ (p : Known). flat_known box old k g p (roots (map_forest (known_at box new) g))) same
    ∙ (ap (λ (ks : List Known). flat_known box old k g (known_at box old k) ks) (kids-same (known_at box old) (known_at box new) g kids_same)
    ∙ sym (flat-known box old k g was kids_were)))

-- what is left of some trees without the one at u
pub left-root : (u : ℕ) (g : Forest ℕ) (j : ℕ) → is_root j (without u g) ≡ true → (is_root j g ≡ true) × (eqb j u ≡ false)
left-root u Empty j is = absurd (false≢true is)
left-root u (Tree h cs rest) j is = elim (cases_Bool (eqb h u)) [
  | inl same ↦ let later = left-root u rest j (rw same at is) in (or_right (eqb h j) (is_root j rest) later.0, later.1)
  | inr other ↦
      let here : is_root j (Tree h cs (without u rest)) ≡ true = rw other at is in
      elim (cases_Bool (eqb h j)) [
        | inl top ↦ (or_left (eqb h j) (is_root j rest) top, subst (λ i. eqb i u ≡ false) (eqb-true h j top) other)
        | inr low ↦ let later = left-root u rest j (rw low at here) in (or_right (eqb h j) (is_root j rest) later.0, later.1)
      ]
]
