-- Places that stay settled where one object without children is to its parent what it was.
use Rattle.std.proofs.Common.{◌≡◌, ◌∙◌, refl, sym, ap, subst, ℕ, Bool, true, false, eqb, eq-eqb, ◌||◌, max, List, [], map, Option, Some, None, inl, inr, arith}
use Rattle.std.specs.Prelude.{is_some}
use Rattle.std.proofs.lemmas.Bool.{cases_Bool, eqb-true, both_ways, false_from_ne_true, or_left, or_right, false≢true}
use Rattle.std.proofs.lemmas.Simd.{map-map}
use Rattle.gui_base.specs.Forest.{Forest, Empty, Tree, StandsOnce, children_of, has, map_forest, parent_of, roots}
use Rattle.gui_base.specs.Limits.{Bounds}
use Rattle.gui_pool.specs.Table.{value_at}
use Rattle.gui_tree.proofs.Parts.{IsPart, distinct_once, found, has-part, here, part_below, part_beside, there as there_in, whole}
use Rattle.layout_defs.specs.Boxes.{Box, course_of, inner, inset}
use Rattle.layout_defs.specs.Solving.{kid_reach, kid_slots, kid_widths, kids_height, natural_height, natural_size, natural_width}
use Rattle.layout_defs.specs.OwnHeights.{but_height, but_height_tall, but_height_wide, fixed_at}
use Rattle.layout_defs.proofs.OwnHeights.{kid_reach-but, kid_slots-but, kid_widths-but, natural_width-but, roots-map}
use Rattle.scene_defs.specs.Scene.{Scene, handles_of}
use Rattle.scene_defs.specs.Valid.{IsValid}
use Rattle.gui_boxes.specs.Scrolls.{scrolled_by}
use Rattle.gui_boxes.specs.Settled.{AllFit, FillsPanel, Fits, Known, slot_of, tall_of, wide_of, width_of}
use Rattle.gui_boxes.specs.Views.{box_at}
use Rattle.gui_boxes.proofs.Columns.{none_is}
use Rattle.gui_boxes.proofs.Passes.{roots_known}
use Rattle.gui_layout.specs.declared.places.Places.{Places}
use Rattle.gui_layout.specs.Kept.{Keeps, height_alone}
use Rattle.gui_layout.specs.Marked.{AllFillBut, AllFitBut, is_root}
use Rattle.gui_layout.specs.Scenes.{scene_box}
use Rattle.gui_layout.specs.Scrolled.{IsScrolledIn, scrolled_known}
use Rattle.gui_layout.specs.SettledBut.{AreSettledButChanged, HasKids, IsUnmoved, anyone, nobody}
use Rattle.gui_layout.specs.Settles.{known_in}
use Rattle.gui_layout.specs.Solved.{AreSettled, AreStanding, layout_of}
use Rattle.gui_layout.proofs.Before.{fill-at, fit-part, root-of}
use Rattle.gui_layout.proofs.Closing.{all-settled}
use Rattle.gui_layout.proofs.Marking.{fits-left}
use Rattle.gui_layout.proofs.NaturalSizes.{all-naturals}
use Rattle.gui_layout.proofs.Overs.{kid-parent, kids-same, root-in}
use Rattle.gui_layout.proofs.Propagating.{natural_height-seen}
use Rattle.gui_layout.proofs.ReachSizes.{all-reached}
use Rattle.gui_layout.proofs.Renewals.{some-box}
use Rattle.gui_layout.proofs.Settling.{parent-root, root-has}
use Rattle.gui_layout.proofs.Siblings.{around, parent-child}
use Rattle.gui_layout.proofs.Stepping.{settles-none}

-- An object without children is as high by nature as what it shows.
high : (n : ℕ) (k : ℕ) → k ≡ 0 → max n k ≡ n
high n k none = omega (arith, none)

pub alone-height : (box : Box) (width : ℕ) → natural_height box width [] ≡ height_alone box width
alone-height box width =
    let room = inner box.across width in
    let none : kids_height (course_of box.flow) box room [] ≡ 0 = none_is (course_of box.flow) box room [] _ refl refl in
    ap (natural_size box.down.size (inset box.down)) (high (box.own_height room) (kids_height (course_of box.flow) box room []) none)

-- what others see of an object
abbrev view : Known → Known
view k = record k { box = but_height k.box }

wides : (ks : List Known) → map wide_of (map view ks) ≡ map but_height_wide (map wide_of ks)
wides ks = map-map wide_of view ks ∙ sym (map-map but_height_wide wide_of ks)

talls : (ks : List Known) → map tall_of (map view ks) ≡ map but_height_tall (map tall_of ks)
talls ks = map-map tall_of view ks ∙ sym (map-map but_height_tall tall_of ks)

width-view : (k : Known) (ks : List Known) → natural_width (view k).box (map wide_of (map view ks)) ≡ natural_width k.box (map wide_of ks)
width-view k ks = ap (natural_width (but_height k.box)) (wides ks) ∙ natural_width-but k.box (map wide_of ks)

widths-view : (k : Known) (ks : List Known) → kid_widths (view k).box k.width (map wide_of (map view ks)) ≡ kid_widths k.box k.width (map wide_of ks)
widths-view k ks = ap (kid_widths (but_height k.box) k.width) (wides ks) ∙ kid_widths-but k.box k.width (map wide_of ks)

slots-view : (k : Known) (ks : List Known) → kid_slots (tall_of (view k)) k.slot (map tall_of (map view ks)) ≡ kid_slots (tall_of k) k.slot (map tall_of ks)
slots-view k ks = ap (kid_slots (but_height_tall (tall_of k)) k.slot) (talls ks) ∙ kid_slots-but (tall_of k) k.slot (map tall_of ks)

scrolled-view : (k : Known) (ks : List Known) → scrolled_known (view k) (map view ks) ≡ scrolled_known k ks
scrolled-view k ks = ap (scrolled_by k.box) (ap (kid_reach (but_height_tall (tall_of k)) k.slot) (talls ks) ∙ kid_reach-but (tall_of k) k.slot (map tall_of ks))

-- What goes by what is seen is the same where that is.
module _ (x y : Known) (xs ys : List Known) (own : view x ≡ view y) (kids : map view xs ≡ map view ys) where
  sees : {B : Type 0} (P : Known → List Known → B) → ((k : Known) (ks : List Known) → P (view k) (map view ks) ≡ P k ks) → P x xs ≡ P y ys
  sees P is = sym (is x xs) ∙ (ap (λ (k : Known). P k (map view xs)) own ∙ (ap (P (view y)) kids ∙ is y ys))

  -- the natural height of a parent does not go by the own heights of its children
  heights : (box : Box) (width : ℕ) → natural_height box width (map tall_of xs) ≡ natural_height box width (map tall_of ys)
  heights box width =
      sym (natural_height-seen box width (map tall_of xs))
      ∙ (ap (natural_height (fixed_at width box) width) (sym (talls xs) ∙ (ap (map tall_of) kids ∙ talls ys))
      ∙ natural_height-seen box width (map tall_of ys))

-- roots are told by the list of them
rooted : (j : ℕ) (a b : Forest ℕ) → roots a ≡ roots b → is_root j a ≡ is_root j b
rooted j Empty Empty same = refl
rooted j Empty (Tree h cs rest) same = cc
rooted j (Tree h cs rest) Empty same = cc
rooted j (Tree h cs rest) (Tree k ks later) same =
    let first : h ≡ k = cc in
    let others : roots rest ≡ roots later = cc in
    ap (λ i. eqb i j || is_root j rest) first ∙ ap (λ b. eqb k j || b) (rooted j rest later others)

module _ (p : Places) (before scene : Scene) (m c : ℕ → Bool) (h : ℕ) (settled : AreSettled p before) (once_before : StandsOnce (handles_of before.trees)) (valid : IsValid scene) (limits : scene.limits ≡ before.limits)
    (each : (k : ℕ) → m k ≡ false → IsUnmoved before scene m c k) (none : (k : ℕ) → eqb k h ≡ false → m k ≡ false) (still : (k : ℕ) → c k ≡ false) (keeps : Keeps (handles_of scene.trees) p.entries scene h) where
  abbrev f : Forest ℕ
  f = handles_of scene.trees

  abbrev g : Forest ℕ
  g = handles_of before.trees

  abbrev new : ℕ → Known
  new = known_in p scene

  abbrev old : ℕ → Known
  old = known_in p before

  once : StandsOnce f
  once = valid.trees.once

  unmoved : (k : ℕ) → eqb k h ≡ false → IsUnmoved before scene m c k
  unmoved k other = each k (none k other)

  was_there : has g h ≡ true
  was_there = sym (settled.there h) ∙ keeps.some

  there_still : (k : ℕ) → is_some (value_at p.entries k) ≡ has f k
  there_still k = elim (cases_Bool (eqb k h)) [
    | inl is ↦ subst (λ j. is_some (value_at p.entries j) ≡ has f j) (sym (eqb-true k h is)) (keeps.some ∙ sym keeps.there)
    | inr other ↦ settled.there k ∙ sym (unmoved k other).there
  ]

  there_before : (k : ℕ) → has f k ≡ true → has g k ≡ true
  there_before k there = sym (settled.there k) ∙ (there_still k ∙ there)

  boxed : (k : ℕ) → has g k ≡ true → but_height (box_at (layout_of p).boxes k) ≡ but_height (scene_box before k)
  boxed k was = settled.boxes k (some-box p.entries k (settled.there k ∙ was))

  -- all boxes are the same but for own heights
  same_box : (k : ℕ) → but_height (scene_box scene k) ≡ but_height (scene_box before k)
  same_box k = elim (cases_Bool (eqb k h)) [
    | inl is ↦ subst (λ j. but_height (scene_box scene j) ≡ but_height (scene_box before j)) (sym (eqb-true k h is)) (sym keeps.box ∙ boxed h was_there)
    | inr other ↦ ap but_height (unmoved k other).box
  ]

  same_view : (k : ℕ) → view (new k) ≡ view (old k)
  same_view k = ap (λ (b : Box). record (old k) { box = record b { handle = k } }) (same_box k)

  kids_of : (k : ℕ) → eqb k h ≡ false → roots (children_of f k) ≡ roots (children_of g k)
  kids_of k other = subst (λ on. HasKids on m (children_of f k) (children_of g k)) (still k) (unmoved k other).kids

  -- it had no children, since each would have another parent now
  no_child : (j : ℕ) → is_root j (children_of g h) ≡ true → ⊥
  no_child j kid = by (parent_of f j) refl where
    up : parent_of g j ≡ Some h
    up = kid-parent g None j h (distinct_once g once_before) kid

    other : eqb j h ≡ false
    other = false_from_ne_true (eqb j h) (λ e. both_ways (eqb h j) (around g j h once_before (root-in g j h kid) up).other (eq-eqb h j (sym (eqb-true j h e))))

    top : None ≡ Some h → ⊥
    top e = cc

    same : (q : ℕ) → Some q ≡ Some h → q ≡ h
    same q e = cc

    by : (above : Option ℕ) → parent_of f j ≡ above → ⊥
    by None is = top (sym ((unmoved j other).root is) ∙ up)
    by (Some q) is =
        let now : is_root j (children_of f q) ≡ true = parent-child f j q once is in
        elim (cases_Bool (eqb q h)) [
          | inl own ↦ false≢true (sym (ap (is_root j) (subst (λ i. children_of f i ≡ Empty) (sym (eqb-true q h own)) keeps.alone)) ∙ now)
          | inr away ↦
              let was : is_root j (children_of g q) ≡ true = sym (rooted j (children_of f q) (children_of g q) (kids_of q away)) ∙ now in
              both_ways (eqb q h) away (eq-eqb q h (same q (sym (kid-parent g None j q (distinct_once g once_before) was) ∙ up)))
        ]

  none_before : (cs : Forest ℕ) → children_of g h ≡ cs → [] ≡ roots cs
  none_before Empty is = refl
  none_before (Tree j ks rest) is = absurd (no_child j (subst (λ (t : Forest ℕ). is_root j t ≡ true) (sym is) (or_left (eqb j j) (is_root j rest) (eq-eqb j j refl))))

  -- so all have the children that they had
  same_kids : (k : ℕ) → roots (children_of f k) ≡ roots (children_of g k)
  same_kids k = elim (cases_Bool (eqb k h)) [
    | inl is ↦ subst (λ j. roots (children_of f j) ≡ roots (children_of g j)) (sym (eqb-true k h is)) (ap (λ (t : Forest ℕ). roots t) keeps.alone ∙ none_before (children_of g h) refl)
    | inr other ↦ kids_of k other
  ]

  abbrev now_kids : ℕ → List Known
  now_kids k = roots (map_forest new (children_of f k))

  abbrev was_kids : ℕ → List Known
  was_kids k = roots (map_forest old (children_of g k))

  same_views : (k : ℕ) → map view (now_kids k) ≡ map view (was_kids k)
  same_views k =
      sym (roots_known view new (children_of f k))
      ∙ (kids-same (λ j. view (old j)) (λ j. view (new j)) (children_of f k) (λ j kid. same_view j)
      ∙ (roots_known view old (children_of f k) ∙ ap (map view) (roots-map old (children_of f k) ∙ (ap (map old) (same_kids k) ∙ sym (roots-map old (children_of g k))))))

  was_fit : (k : ℕ) → has g k ≡ true → Fits (old k) (was_kids k)
  was_fit k was =
      let at = there_in g k was in
      let fit : AllFit (map_forest old (Tree k at.children at.rest)) = fit-part old at.part settled.settled.fit in
      let kids : children_of g k ≡ at.children = (found at.part (distinct_once g once_before)).children in
      subst (λ (t : Forest ℕ). Fits (old k) (roots (map_forest old t))) (sym kids) fit.0

  -- the natural height of each is right
  high_as : (k : ℕ) → has f k ≡ true → (new k).natural_height ≡ natural_height (new k).box (new k).width (map tall_of (now_kids k))
  high_as k there = elim (cases_Bool (eqb k h)) [
    | inl is ↦ subst (λ j. (new j).natural_height ≡ natural_height (new j).box (new j).width (map tall_of (now_kids j))) (sym (eqb-true k h is)) (
        keeps.height
        ∙ (sym (alone-height (new h).box (new h).width)
        ∙ ap (λ (t : Forest ℕ). natural_height (new h).box (new h).width (map tall_of (roots (map_forest new t)))) (sym keeps.alone)))
    | inr other ↦
        (was_fit k (there_before k there)).natural_height
        ∙ (ap (λ (b : Box). natural_height (record b { handle = k }) (old k).width (map tall_of (was_kids k))) (sym (unmoved k other).box)
        ∙ sym (heights (new k) (old k) (now_kids k) (was_kids k) (same_view k) (same_views k) (new k).box (new k).width))
  ]

  fits : (k : ℕ) → has f k ≡ true → Fits (new k) (now_kids k)
  fits k there =
      let was = was_fit k (there_before k there) in
      let xs = now_kids k in
      let ys = was_kids k in
      let own = same_view k in
      let kids = same_views k in
      record {
        natural_width = was.natural_width ∙ sym (sees (new k) (old k) xs ys own kids (λ i is. natural_width i.box (map wide_of is)) width-view);
        widths =
            sees (new k) (old k) xs ys own kids (λ i is. map width_of is) (λ i is. map-map width_of view is)
            ∙ (was.widths ∙ sym (sees (new k) (old k) xs ys own kids (λ i is. kid_widths i.box i.width (map wide_of is)) widths-view));
        natural_height = high_as k there;
        slots =
            sees (new k) (old k) xs ys own kids (λ i is. map slot_of is) (λ i is. map-map slot_of view is)
            ∙ (was.slots ∙ sym (sees (new k) (old k) xs ys own kids (λ i is. kid_slots (tall_of i) i.slot (map tall_of is)) slots-view));
      }

  all : (t : Forest ℕ) → IsPart f t → AllFitBut anyone nobody new t
  all Empty part = tt
  all (Tree k cs rest) part =
      let kids : children_of f k ≡ cs = (found part (distinct_once f once)).children in
      let fit : Fits (new k) (roots (map_forest new cs)) = subst (λ (t : Forest ℕ). Fits (new k) (roots (map_forest new t))) kids (fits k (has-part part k (here k cs rest))) in
      (λ looked un. fits-left new nobody k cs fit, all cs (part_below part), all rest (part_beside part))

  fill : (k : ℕ) → is_root k f ≡ true → FillsPanel scene.limits.width scene.limits.height (new k)
  fill k top =
      let root : parent_of f k ≡ None = parent-root k None f (distinct_once f once) top in
      let other : eqb k h ≡ false =
      false_from_ne_true (eqb k h) (λ e. both_ways (is_some (parent_of f h)) (ap is_some (subst (λ j. parent_of f j ≡ None) (eqb-true k h e) root)) keeps.under) in
      let was = there_before k (root-has k f top) in
      let fills : FillsPanel before.limits.width before.limits.height (old k) = fill-at before.limits.width before.limits.height k old g (root-of k None g was ((unmoved k other).root root)) settled.settled.fill in
      let now : FillsPanel before.limits.width before.limits.height (new k) = record { is_wide = fills.is_wide; at_corner = fills.at_corner } in
      subst (λ (b : Bounds). FillsPanel b.width b.height (new k)) (sym limits) now

  all_fill : (t : Forest ℕ) → ((k : ℕ) → is_root k t ≡ true → is_root k f ≡ true) → AllFillBut anyone nobody scene.limits.width scene.limits.height new t
  all_fill Empty tops = tt
  all_fill (Tree k cs rest) tops = (
    λ looked un. fill k (tops k (or_left (eqb k k) (is_root k rest) (eq-eqb k k refl))),
    all_fill rest (λ j i. tops j (or_right (eqb k j) (is_root j rest) i)),
  )

  but : AreSettledButChanged p scene nobody
  but = record {
    right = record {
      boxes = λ k there looked un. boxed k (there_before k there) ∙ sym (same_box k);
      placed = λ k there looked un. there_still k ∙ there;
      fit = all f whole;
      fill = all_fill f (λ k i. i);
    };
    there = λ k un. there_still k;
  }

  standing : AreStanding p scene
  standing =
      all-settled scene p p p nobody nobody (λ k there un. refl) (λ k there un same. same) (λ k there on. absurd (false≢true on)) (λ k there some. some refl)
      (settles-none scene p nobody) (λ k there. refl) valid but.right (λ k. but.there k refl)

  scrolled : (k : ℕ) → has f k ≡ true → IsScrolledIn new (layout_of p).scrolls f k
  scrolled k there = settled.scrolled k (there_before k there) ∙ sym (sees (new k) (old k) (now_kids k) (was_kids k) (same_view k) (same_views k) scrolled_known scrolled-view)

  -- all stays settled
  pub kept-settled : AreSettled p scene
  kept-settled =
      let shown = all-reached scene valid p.entries standing.settled scrolled standing.there in
      record {
        boxes = standing.boxes;
        settled = standing.settled;
        there = standing.there;
        solved = standing.solved;
        scrolled = scrolled;
        calm = λ k there. settled.calm k (there_before k there);
        reached = record { reaches = λ k. (shown k).reaches; offsets = λ k. (shown k).offsets };
        naturals = all-naturals scene valid p.entries standing.settled standing.there;
      }
