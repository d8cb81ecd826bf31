-- How far children are scrolled, once all marks are settled.
use Rattle.std.proofs.Common.{◌≡◌, ◌∙◌, ◌<◌, refl, sym, ap, subst, ℕ, Bool, true, false, eqb, eq-eqb, ◌⊎◌, inl, inr, Some, List, map}
use Rattle.std.proofs.lemmas.Bool.{cases_Bool, both_ways, eqb-true, false_from_ne_true, or_left, or_right, or_parts, false≢true}
use Rattle.gui_base.specs.Forest.{Forest, Empty, Tree, StandsOnce, children_of, has, map_forest, parent_of, roots}
use Rattle.gui_base.specs.declared.Handle.{Handle}
use Rattle.layout_defs.specs.Boxes.{Box}
use Rattle.layout_defs.specs.OwnHeights.{but_height}
use Rattle.layout_defs.specs.Solving.{Slot, Span, Tall, flat_slots, no_span, kid_reach, offset_of, reach_in, room_of}
use Rattle.layout_defs.proofs.Scrolling.{still_stands_flat}
use Rattle.scene_defs.specs.Scene.{Scene, handles_of}
use Rattle.gui_layout.specs.declared.places.Places.{Places}
use Rattle.gui_boxes.specs.Around.{IsFlat, ReadsReaches}
use Rattle.gui_boxes.specs.Kids.{tall_kids}
use Rattle.gui_boxes.specs.Listing.{times}
use Rattle.gui_layout.specs.Marked.{AllFitBut, is_any_root, is_root}
use Rattle.gui_layout.specs.Raised.{Rests}
use Rattle.gui_layout.specs.Renewed.{IsRenewed}
use Rattle.gui_layout.specs.Scenes.{scene_box}
use Rattle.gui_layout.specs.Scrolled.{IsScrolledIn}
use Rattle.gui_boxes.specs.Scrolls.{Scrolled, scrolled_at}
use Rattle.gui_boxes.specs.Settled.{Fits, Known, Layout, known_at, slot_of, tall_of}
use Rattle.gui_layout.specs.SettledBut.{AreLooked, AreRightBut, AreRightButChanged, AreScrolledBut, nobody}
use Rattle.gui_layout.specs.Settles.{known_in}
use Rattle.gui_boxes.specs.Slots.{at_roots, slot_at, tall_at}
use Rattle.gui_layout.specs.Solved.{layout_of}
use Rattle.gui_layout.specs.Tops.{ScrollsAt, in_trees_at, is_over}
use Rattle.gui_boxes.specs.Views.{box_at}
use Rattle.gui_layout.proofs.Alike.{inside-alike}
use Rattle.gui_boxes.proofs.Fitting.{tall_roots}
use Rattle.gui_layout.proofs.Marking.{left-fits, steady-is}
use Rattle.gui_boxes.proofs.Passes.{roots_read}
use Rattle.gui_layout.proofs.Overs.{kid-over, over-is, root-in, scrolled-same}
use Rattle.gui_tree.proofs.Parts.{distinct_once}

-- no child has changed where none is marked
pub unmarked-root : (m : ℕ → Bool) (g : Forest ℕ) (j : ℕ) → is_any_root m g ≡ false → is_root j g ≡ true → m j ≡ false
unmarked-root m Empty j none is = absurd (false≢true is)
unmarked-root m (Tree h cs rest) j none is =
    let parts : (m h ≡ false) × (is_any_root m rest ≡ false) = or_parts (m h) (is_any_root m rest) none in
    elim (cases_Bool (eqb h j)) [
      | inl same ↦ subst (λ i. m i ≡ false) (eqb-true h j same) parts.0
      | inr other ↦ unmarked-root m rest j parts.1 (rw other at is)
    ]

pub no-roots : (m : ℕ → Bool) (g : Forest ℕ) → ((j : ℕ) → is_root j g ≡ true → m j ≡ false) → is_any_root m g ≡ false
no-roots m Empty none = refl
no-roots m (Tree h cs rest) none =
    rw (none h (or_left (eqb h h) (is_root h rest) (eq-eqb h h refl))) (no-roots m rest (λ j i. none j (or_right (eqb h j) (is_root j rest) i)))

pub nobody-root : (g : Forest ℕ) → is_any_root nobody g ≡ false
nobody-root g = no-roots nobody g (λ j i. refl)

-- what is known of an object that is looked at fits what is known of its children
pub fits-at : (s : ℕ → Bool) (known : ℕ → Known) (g : Forest ℕ) (k : ℕ) → AllFitBut s nobody known g → has g k ≡ true → s k ≡ true → Fits (known k) (roots (map_forest known (children_of g k)))
fits-at s known Empty k fit there looked = absurd (false≢true there)
fits-at s known (Tree h cs rest) k fit there looked = elim (cases_Bool (eqb h k)) [
  | inl is ↦
      let same = eqb-true h k is in
      rw is (subst (λ j. Fits (known j) (roots (map_forest known cs))) same (left-fits known nobody h cs (nobody-root cs) (fit.0 (subst (λ j. s j ≡ true) (sym same) looked) refl)))
  | inr isnt ↦ elim (cases_Bool (has cs k)) [
    | inl below ↦ rw (isnt, below) (fits-at s known cs k fit.1 below looked)
    | inr out ↦ rw (isnt, out) (fits-at s known rest k fit.2 (rw (isnt, out) at there) looked)
  ]
]

-- An object that moves no children, whose reach is read off where they stand.
offset-still : (box : Box) (reach : Span) → box.scrollable ≡ false → offset_of box reach ≡ no_span
offset-still box reach still = rw still refl

abbrev both : Span → Span → Scrolled
both reach offset = record { reach = reach; offset = offset }

module _ (box : ℕ → Box) (l : Layout) (f : Forest ℕ) (k : ℕ) where
  abbrev cs : Forest ℕ
  cs = children_of f k

  abbrev kids : List Known
  kids = roots (map_forest (known_at box l) cs)

  -- children that stand as they fit reach as far as it is told
  reaches : (box_at l.boxes k).scrollable ≡ false → but_height (box_at l.boxes k) ≡ but_height (box k) → ((j : ℕ) → is_root j cs ≡ true → but_height (box_at l.boxes j) ≡ but_height (box j)) → Fits (known_at box l k) kids →
      reach_in (room_of (tall_at (box_at l.boxes) l.widths l.natural_heights k) (slot_at l.slots k)) (tall_kids l f k) (at_roots l.slots cs) ≡ kid_reach (tall_of (known_at box l k)) (slot_at l.slots k) (map tall_of kids)
  reaches off same all fits =
      let tall = tall_of (known_at box l k) in
      let slot = slot_at l.slots k in
      let room = room_of tall slot in
      let still : (box k).scrollable ≡ false = sym (ap (λ (b : Box). b.scrollable) same) ∙ off in
      let stand : at_roots l.slots cs ≡ flat_slots tall slot (map tall_of kids) = sym (roots_read slot_of (known_at box l) cs) ∙ (fits.slots ∙ still_stands_flat tall slot (map tall_of kids) still) in
      ap (λ (ts : List Tall). reach_in (room_of (tall_at (box_at l.boxes) l.widths l.natural_heights k) slot) ts (at_roots l.slots cs)) (sym (tall_roots (box_at l.boxes) l cs))
      ∙ (inside-alike (box_at l.boxes) box l.widths l.natural_heights k slot cs (at_roots l.slots cs) same all
      ∙ (ap (λ (ts : List Tall). reach_in room ts (at_roots l.slots cs)) (tall_roots box l cs) ∙ ap (λ (ss : List Slot). reach_in room (map tall_of kids) ss) stand))

  flat-told : IsFlat f l k → but_height (box_at l.boxes k) ≡ but_height (box k) → ((j : ℕ) → is_root j cs ≡ true → but_height (box_at l.boxes j) ≡ but_height (box j)) →
      Fits (known_at box l k) kids → IsScrolledIn (known_at box l) l.scrolls f k
  flat-told flat same all fits =
      let tall = tall_of (known_at box l k) in
      let slot = slot_at l.slots k in
      let still : (box k).scrollable ≡ false = sym (ap (λ (b : Box). b.scrollable) same) ∙ flat.still in
      flat.read
      ∙ (ap (λ (r : Span). both r no_span) (reaches flat.still same all fits) ∙ ap (both (kid_reach tall slot (map tall_of kids))) (sym (offset-still tall.box (kid_reach tall slot (map tall_of kids)) still)))

  -- and so it is read where that is told
  pub told-flat : IsScrolledIn (known_at box l) l.scrolls f k → but_height (box_at l.boxes k) ≡ but_height (box k) → ((j : ℕ) → is_root j cs ≡ true → but_height (box_at l.boxes j) ≡ but_height (box j)) →
      Fits (known_at box l k) kids → (box_at l.boxes k).scrollable ≡ false → IsFlat f l k
  told-flat told same all fits still =
      let reach = kid_reach (tall_of (known_at box l k)) (slot_at l.slots k) (map tall_of kids) in
      let off : (box k).scrollable ≡ false = sym (ap (λ (b : Box). b.scrollable) same) ∙ still in
      record {
        still = still;
        read =
            told
            ∙ (ap (both reach) (offset-still (tall_of (known_at box l k)).box reach off)
            ∙ ap (λ (r : Span). both r no_span) (sym (reaches still same all fits)));
      }

-- The trees at the marks are solved, and then the reaches are read around them.
module _ (scene : Scene) (old mid new : Places) (m c n : ℕ → Bool) (us ws : List Handle) (once : StandsOnce (handles_of scene.trees))
    (scrolls : ScrollsAt old mid scene n us) (whole : (k : ℕ) → has (handles_of scene.trees) k ≡ true → n k ≡ true → in_trees_at (handles_of scene.trees) us k ≡ true)
    (more : (k : ℕ) → m k ≡ true → n k ≡ true) (rests : (k : ℕ) → c k ≡ true → n k ≡ false → Rests (handles_of scene.trees) old.entries k)
    (reads : ReadsReaches (handles_of scene.trees) (layout_of mid) (layout_of new))
    (overs : (u q : ℕ) → 0 < times us u → parent_of (handles_of scene.trees) u ≡ Some q → (box_at (layout_of mid).boxes q).scrollable ≡ false → IsFlat (handles_of scene.trees) (layout_of new) q)
    (theirs : (k : ℕ) → 0 < times ws k → has (handles_of scene.trees) k ≡ true → (box_at (layout_of mid).boxes k).scrollable ≡ false → IsFlat (handles_of scene.trees) (layout_of new) k)
    (listed : (k : ℕ) → c k ≡ true → 0 < times ws k) where
  abbrev f : Forest ℕ
  f = handles_of scene.trees

  known-new : (k : ℕ) → known_in new scene k ≡ known_in mid scene k
  known-new k = ap (λ (l : Layout). known_at (scene_box scene) l k) reads.rest

  -- the same box moves none
  still-as : (k : ℕ) (b d : Box) → but_height b ≡ but_height d → d.scrollable ≡ false → b.scrollable ≡ false
  still-as k b d same still = ap (λ (x : Box). x.scrollable) same ∙ still

  module _ (s : ℕ → Bool) (was : AreRightBut old scene s m c) (now : AreRightButChanged mid scene s nobody) where
    flat-right : (k : ℕ) → has f k ≡ true → s k ≡ true → AreLooked s nobody (children_of f k) → IsFlat f (layout_of new) k → IsScrolledIn (known_in new scene) (layout_of new).scrolls f k
    flat-right k there looked looks flat =
        let renewed : (j : ℕ) → IsRenewed scene (layout_of mid).boxes j → IsRenewed scene (layout_of new).boxes j = λ j is. ap (λ (l : Layout). but_height (box_at l.boxes j)) reads.rest ∙ is in
        let fits : Fits (known_in mid scene k) (roots (map_forest (known_in mid scene) (children_of f k))) = fits-at s (known_in mid scene) f k now.fit there looked in
        let fits_new : Fits (known_in new scene k) (roots (map_forest (known_in new scene) (children_of f k))) =
        subst (λ (l : Layout). Fits (known_at (scene_box scene) l k) (roots (map_forest (known_at (scene_box scene) l) (children_of f k)))) (sym reads.rest) fits in
        flat-told (scene_box scene) (layout_of new) f k flat (renewed k (now.boxes k there looked refl)) (λ j kid. renewed j (now.boxes j (root-in f j k kid) (looks.looked j kid) refl)) fits_new

    -- an object whose parent or children lie in the trees
    over-right : (k : ℕ) → has f k ≡ true → s k ≡ true → AreLooked s nobody (children_of f k) → is_over f us k ≡ true → IsScrolledIn (known_in new scene) (layout_of new).scrolls f k
    over-right k there looked looks over =
        let o = over-is f us k over in
        let still = still-as k (box_at (layout_of mid).boxes k) (scene_box scene k) (now.boxes k there looked refl) (scrolls.steady o.top k o.listed o.parent).still in
        flat-right k there looked looks (overs o.top k o.listed o.parent still)

    -- one of which only the list of children may be another
    partly-right : (k : ℕ) → has f k ≡ true → s k ≡ true → m k ≡ false → c k ≡ true → n k ≡ false → AreLooked s nobody (children_of f k) → IsScrolledIn (known_in new scene) (layout_of new).scrolls f k
    partly-right k there looked un part off looks =
        let steady = steady-is (box_at (layout_of old).boxes k) (rests k part off).steady in
        let still_scene : (scene_box scene k).scrollable ≡ false = sym (ap (λ (x : Box). x.scrollable) (was.boxes k there looked un)) ∙ steady.still in
        flat-right k there looked looks (theirs k (listed k part) there (still-as k (box_at (layout_of mid).boxes k) (scene_box scene k) (now.boxes k there looked refl) still_scene))

    -- one outside of the trees, whose children are no tops of them
    out-right : (k : ℕ) → has f k ≡ true → s k ≡ true → AreLooked s nobody (children_of f k) → in_trees_at f us k ≡ false → is_over f us k ≡ false → IsScrolledIn (known_in mid scene) (layout_of mid).scrolls f k ⊎ IsScrolledIn (known_in new scene) (layout_of new).scrolls f k
    out-right k there looked looks out off =
        let distinct = distinct_once f once in
        let un : n k ≡ false = false_from_ne_true (n k) (λ on. both_ways (in_trees_at f us k) out (whole k there on)) in
        let un_m : m k ≡ false = false_from_ne_true (m k) (λ on. both_ways (n k) un (more k on)) in
        let kid_out : (j : ℕ) → is_root j (children_of f k) ≡ true → in_trees_at f us j ≡ false = λ j kid. false_from_ne_true (in_trees_at f us j) (λ i. both_ways (is_over f us k) off (kid-over f us j k distinct kid i out)) in
        elim (cases_Bool (c k)) [
          | inl part ↦ inr (partly-right k there looked un_m part un looks)
          | inr whole_k ↦
              let kids_un : is_any_root m (children_of f k) ≡ false =
              no-roots m (children_of f k) (λ j kid. false_from_ne_true (m j) (λ on. both_ways (in_trees_at f us j) (kid_out j kid) (whole j (root-in f j k kid) (more j on)))) in
              inl (scrolled-same (known_in old scene) (known_in mid scene) (layout_of old).scrolls (layout_of mid).scrolls f k (scrolls.known k there out) (λ j kid. scrolls.known j (root-in f j k kid) (kid_out j kid)) (scrolls.kept k there out)
              (was.scrolled k there looked un_m whole_k (record { looked = looks.looked; unchanged = kids_un })))
        ]

    kept-right : (k : ℕ) → scrolled_at (layout_of new).scrolls k ≡ scrolled_at (layout_of mid).scrolls k → IsScrolledIn (known_in mid scene) (layout_of mid).scrolls f k → IsScrolledIn (known_in new scene) (layout_of new).scrolls f k
    kept-right k same is = scrolled-same (known_in mid scene) (known_in new scene) (layout_of mid).scrolls (layout_of new).scrolls f k (known-new k) (λ j kid. known-new j) same is

    -- all that is told is right
    pub right-scrolled : AreScrolledBut new scene s nobody nobody
    right-scrolled k there looked un part looks = elim (cases_Bool (is_over f us k)) [
      | inl over ↦ over-right k there looked looks over
      | inr off ↦ elim (reads.each k) [
        | inr flat ↦ flat-right k there looked looks flat
        | inl same ↦ elim (cases_Bool (in_trees_at f us k)) [
          | inl inside ↦ kept-right k same (scrolls.scrolled k there inside off)
          | inr out ↦ elim (out-right k there looked looks out off) [ inl is ↦ kept-right k same is | inr is ↦ is ]
        ]
      ]
    ]
