-- Objects whose boxes differ in their own heights alone scroll their children alike.
use Rattle.std.proofs.Common.{◌≡◌, ◌∙◌, refl, sym, ap, ℕ, ◌-◌, true, false, ◌||◌, eqb, eq-eqb, subst, List, ◌∷◌, get_or, map, inl, inr}
use Rattle.std.proofs.lemmas.Bool.{cases_Bool, eqb-true, both_ways, false_from_ne_true, or_left, or_right, false≢true}
use Rattle.gui_base.specs.Forest.{Forest, Empty, Tree, has, roots, map_forest, tree_at, children_of}
use Rattle.gui_base.proofs.Forests.{map-agree}
use Rattle.layout_defs.specs.Boxes.{Box}
use Rattle.layout_defs.specs.OwnHeights.{but_height, but_height_tall}
use Rattle.layout_defs.specs.Solving.{Tall, Slot, Room, Span, far_end, end_across, end_down, kid_reach, reach_in, room_of}
use Rattle.layout_defs.proofs.Boxes.{map-map}
use Rattle.layout_defs.proofs.OwnHeights.{far_end-but, kid_reach-but, roots-map}
use Rattle.gui_layout.specs.Marked.{is_root}
use Rattle.gui_boxes.specs.Scrolls.{Scrolled, HoldsScrolls, scrolled_at, scrolled_by, scrolled_in}
use Rattle.gui_layout.specs.Scrolled.{IsScrolled, IsScrolledIn}
use Rattle.gui_boxes.specs.Settled.{Layout, known_at, tall_of}
use Rattle.gui_boxes.specs.Slots.{slot_at, talls, tall_at}
use Rattle.gui_boxes.proofs.Fitting.{tall_roots}
use Rattle.gui_tree.proofs.Parts.{IsDistinct, distinct-part, found, there}
use Rattle.gui_boxes.proofs.InTrees.{tree-in}

-- Own heights.
reach-but : (tall : Tall) (slot : Slot) (cs : Forest Tall) → kid_reach (but_height_tall tall) slot (roots (map_forest but_height_tall cs)) ≡ kid_reach tall slot (roots cs)
reach-but tall slot cs = ap (kid_reach (but_height_tall tall) slot) (roots-map but_height_tall cs) ∙ kid_reach-but tall slot (roots cs)

abbrev span_with : Room → ℕ → ℕ → Span
span_with room across down = record { across = across - room.width; down = down - room.height }

inside-but : (room : Room) (kids : List Tall) (slots : List Slot) → reach_in room (map but_height_tall kids) slots ≡ reach_in room kids slots
inside-but room kids slots =
    ap (λ n. span_with room n (far_end (end_down room) (map but_height_tall kids) slots)) (far_end-but (end_across room) (λ kid s. refl) kids slots)
    ∙ ap (λ n. span_with room (far_end (end_across room) kids slots) n) (far_end-but (end_down room) (λ kid s. refl) kids slots)

module _ (b c : ℕ → Box) (widths naturals : List ℕ) where
  -- a box is the same in both but for its own height
  abbrev Alike : ℕ → Type 0
  Alike h = but_height (b h) ≡ but_height (c h)

  abbrev AllAlike : Forest ℕ → Type 0
  AllAlike f = (k : ℕ) → has f k ≡ true → Alike k

  tall-alike : (h : ℕ) → Alike h → but_height_tall (tall_at b widths naturals h) ≡ but_height_tall (tall_at c widths naturals h)
  tall-alike h same = ap (λ (box : Box). record { box = record box { handle = h }; width = get_or widths h 0; natural_height = get_or naturals h 0 }) same

  first-of : (h : ℕ) (cs rest : Forest ℕ) → AllAlike (Tree h cs rest) → Alike h
  first-of h cs rest same = same h (or_left _ _ (eq-eqb h h refl))

  below-of : (h : ℕ) (cs rest : Forest ℕ) → AllAlike (Tree h cs rest) → AllAlike cs
  below-of h cs rest same k i = same k (or_right _ _ (or_left _ _ i))

  beside-of : (h : ℕ) (cs rest : Forest ℕ) → AllAlike (Tree h cs rest) → AllAlike rest
  beside-of h cs rest same k i = same k (or_right _ _ (or_right _ _ i))

  talls-alike : (f : Forest ℕ) → AllAlike f → map_forest but_height_tall (talls b widths naturals f) ≡ map_forest but_height_tall (talls c widths naturals f)
  talls-alike f same =
      sym (map-map but_height_tall (tall_at b widths naturals) f)
      ∙ (map-agree (λ h. but_height_tall (tall_at b widths naturals h)) (λ h. but_height_tall (tall_at c widths naturals h)) f (λ h i. tall-alike h (same h i)) ∙ map-map but_height_tall (tall_at c widths naturals) f)

  pub scrolled-alike : (h : ℕ) (slot : Slot) (cs : Forest ℕ) → Alike h → AllAlike cs → scrolled_in (tall_at b widths naturals h) slot (roots (talls b widths naturals cs)) ≡ scrolled_in (tall_at c widths naturals h) slot (roots (talls c widths naturals cs))
  scrolled-alike h slot cs same all =
      let t = tall_at b widths naturals h in
      let u = tall_at c widths naturals h in
      let reach : kid_reach t slot (roots (talls b widths naturals cs)) ≡ kid_reach u slot (roots (talls c widths naturals cs)) =
      sym (reach-but t slot (talls b widths naturals cs))
      ∙ (ap (λ (f : Forest Tall). kid_reach (but_height_tall t) slot (roots f)) (talls-alike cs all)
      ∙ (ap (λ (w : Tall). kid_reach w slot (roots (map_forest but_height_tall (talls c widths naturals cs)))) (tall-alike h same)
      ∙ reach-but u slot (talls c widths naturals cs))) in
      ap (λ (w : Tall). scrolled_by w.box (kid_reach t slot (roots (talls b widths naturals cs)))) (tall-alike h same) ∙ ap (scrolled_by u.box) reach

  -- so a table that tells it by one tells it by the other
  pub scrolls-alike : (slots : List Slot) (scrolls : List Scrolled) (f : Forest ℕ) → AllAlike f → HoldsScrolls b widths naturals slots scrolls f → HoldsScrolls c widths naturals slots scrolls f
  scrolls-alike slots scrolls Empty same holds = tt
  scrolls-alike slots scrolls (Tree h cs rest) same holds = (
    holds.0 ∙ scrolled-alike h (slot_at slots h) cs (first-of h cs rest same) (below-of h cs rest same),
    scrolls-alike slots scrolls cs (below-of h cs rest same) holds.1,
    scrolls-alike slots scrolls rest (beside-of h cs rest same) holds.2,
  )

  roots-alike : (f : Forest ℕ) → ((k : ℕ) → is_root k f ≡ true → Alike k) → map but_height_tall (roots (talls b widths naturals f)) ≡ map but_height_tall (roots (talls c widths naturals f))
  roots-alike Empty all = refl
  roots-alike (Tree h cs rest) all =
      ap (λ t. t ∷ map but_height_tall (roots (talls b widths naturals rest))) (tall-alike h (all h (or_left (eqb h h) (is_root h rest) (eq-eqb h h refl))))
      ∙ ap (λ ts. but_height_tall (tall_at c widths naturals h) ∷ ts) (roots-alike rest (λ k i. all k (or_right (eqb h k) (is_root k rest) i)))

  -- and children that are read where they stand reach as far
  pub inside-alike : (h : ℕ) (slot : Slot) (cs : Forest ℕ) (ss : List Slot) → Alike h → ((k : ℕ) → is_root k cs ≡ true → Alike k) →
      reach_in (room_of (tall_at b widths naturals h) slot) (roots (talls b widths naturals cs)) ss ≡ reach_in (room_of (tall_at c widths naturals h) slot) (roots (talls c widths naturals cs)) ss
  inside-alike h slot cs ss same all =
      let room = room_of (tall_at b widths naturals h) slot in
      sym (inside-but room (roots (talls b widths naturals cs)) ss)
      ∙ (ap (λ ts. reach_in room ts ss) (roots-alike cs all)
      ∙ (inside-but room (roots (talls c widths naturals cs)) ss
      ∙ ap (λ (w : Tall). reach_in (room_of w slot) (roots (talls c widths naturals cs)) ss) (tall-alike h same)))

-- What a table tells of all objects of a forest, it tells of each.
each-scrolled : (box : ℕ → Box) (l : Layout) (f : Forest ℕ) (k : ℕ) → IsDistinct f → HoldsScrolls box l.widths l.natural_heights l.slots l.scrolls f → has f k ≡ true → IsScrolledIn (known_at box l) l.scrolls f k
each-scrolled box l Empty k distinct holds there = absurd (false≢true there)
each-scrolled box l (Tree h cs rest) k distinct holds there = elim (cases_Bool (eqb h k)) [
  | inl is ↦ rw is (ap (scrolled_at l.scrolls) (sym (eqb-true h k is)) ∙ (holds.0 ∙ (ap (λ ts. scrolled_in (tall_of (known_at box l h)) (known_at box l h).slot ts) (tall_roots box l cs) ∙ ap (λ j. scrolled_in (tall_of (known_at box l j)) (known_at box l j).slot (map tall_of (roots (map_forest (known_at box l) cs)))) (eqb-true h k is))))
  | inr isnt ↦ elim (cases_Bool (has cs k)) [
    | inl below ↦ rw (isnt, below) (each-scrolled box l cs k distinct.3 holds.1 below)
    | inr out ↦ rw (isnt, out) (each-scrolled box l rest k distinct.4 holds.2 (rw (isnt, out) at there))
  ]
]

-- the children of an object of a tree are those that it has in the forest
tree-children : (f : Forest ℕ) (u k : ℕ) → IsDistinct f → has (tree_at f u) k ≡ true → children_of (tree_at f u) k ≡ children_of f k
tree-children Empty u k distinct is = refl
tree-children (Tree h cs rest) u k distinct is = elim (cases_Bool (eqb h u)) [
  | inl same ↦
      let inside : (eqb h k || (has cs k || false)) ≡ true = rw same at is in
      elim (cases_Bool (eqb h k)) [
        | inl top ↦ rw (same, top) refl
        | inr other ↦ elim (cases_Bool (has cs k)) [
          | inl below ↦ rw (same, other, below) refl
          | inr out ↦ absurd (false≢true (rw (other, out) at inside))
        ]
      ]
  | inr isnt ↦ elim (cases_Bool (has cs u)) [
    | inl below ↦
        let inner : has (tree_at cs u) k ≡ true = rw (isnt, below) at is in
        let in_cs : has cs k ≡ true = tree-in u k cs inner in
        let other : eqb h k ≡ false = false_from_ne_true (eqb h k) (λ e. both_ways (has cs h) distinct.1 (subst (λ m. has cs m ≡ true) (sym (eqb-true h k e)) in_cs)) in
        rw (isnt, below, other, in_cs) (tree-children cs u k distinct.3 inner)
    | inr out ↦
        let later : has (tree_at rest u) k ≡ true = rw (isnt, out) at is in
        let in_rest : has rest k ≡ true = tree-in u k rest later in
        let other : eqb h k ≡ false = false_from_ne_true (eqb h k) (λ e. both_ways (has rest h) distinct.2 (subst (λ m. has rest m ≡ true) (sym (eqb-true h k e)) in_rest)) in
        let not_below : has cs k ≡ false = false_from_ne_true (has cs k) (λ i. both_ways (has rest k) (distinct.0 k i) in_rest) in
        rw (isnt, out, other, not_below) (tree-children rest u k distinct.4 later)
  ]
]

-- so what a table tells of all objects of the tree at u, it tells of each in the forest
pub tree-scrolled : (box : ℕ → Box) (l : Layout) (f : Forest ℕ) (u k : ℕ) → IsDistinct f → IsDistinct (tree_at f u) → HoldsScrolls box l.widths l.natural_heights l.slots l.scrolls (tree_at f u) → has (tree_at f u) k ≡ true → IsScrolledIn (known_at box l) l.scrolls f k
tree-scrolled box l f u k distinct own holds is =
    subst (IsScrolled (known_at box l) l.scrolls k) (tree-children f u k distinct is) (each-scrolled box l (tree_at f u) k own holds is)

pub all-scrolled : (box : ℕ → Box) (l : Layout) (f : Forest ℕ) (k : ℕ) → IsDistinct f → HoldsScrolls box l.widths l.natural_heights l.slots l.scrolls f → has f k ≡ true → IsScrolledIn (known_at box l) l.scrolls f k
all-scrolled = each-scrolled

-- the tree of an object stands by itself
pub distinct-tree : (f : Forest ℕ) (u : ℕ) → IsDistinct f → has f u ≡ true → IsDistinct (tree_at f u)
distinct-tree f u distinct is =
    let at = there f u is in
    let all = distinct-part at.part distinct in
    subst IsDistinct (sym (found at.part distinct).tree) (alone u at.children at.rest all)
  where
    alone : (h : ℕ) (cs rest : Forest ℕ) → IsDistinct (Tree h cs rest) → IsDistinct (Tree h cs Empty)
    alone h cs rest d = (λ k i. refl, d.1, refl, d.3, tt)
