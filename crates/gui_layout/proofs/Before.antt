-- What is right of objects that did not differ since they were solved.
use Rattle.std.proofs.Common.{◌≡◌, ◌∙◌, refl, sym, ap, subst, ℕ, Bool, true, false, eqb, eq-eqb, ◌||◌, List, map, Option, Some, None, inl, inr}
use Rattle.std.proofs.lemmas.Bool.{cases_Bool, eqb-true, both_ways, false_from_ne_true, or_left, or_right, false≢true}
use Rattle.gui_base.specs.Forest.{Forest, Empty, Tree, StandsOnce, children_of, has, has_by, map_forest, parent_by, roots}
use Rattle.gui_base.specs.Limits.{Bounds}
use Rattle.layout_defs.specs.Boxes.{Box}
use Rattle.layout_defs.specs.OwnHeights.{but_height}
use Rattle.layout_defs.proofs.OwnHeights.{roots-map}
use Rattle.scene_defs.specs.Scene.{Scene, handles_of}
use Rattle.gui_layout.specs.declared.places.Places.{Places}
use Rattle.gui_layout.specs.Marked.{AllFillBut, AllFitButBoth, FitsBut, HasNatural, LeftBy, LeftOf, StandUnmarked, marked_trees}
use Rattle.gui_boxes.specs.Settled.{AllFill, AllFit, FillsPanel, Fits, Known, Layout, StandsFree, is_steady}
use Rattle.gui_layout.specs.SettledBut.{AreRightBut, AreSettledButMarks, DiffersInMarks, HasKids, IsUnmoved, WasSolved, anyone, in_marked, nobody}
use Rattle.gui_layout.specs.Solved.{AreSettled, layout_of}
use Rattle.gui_layout.specs.Settles.{known_in}
use Rattle.gui_layout.proofs.Marking.{but-alike, fill-fewer, fits-left, left-graded, marked-has, natural-others, steady-is}
use Rattle.gui_tree.proofs.Parts.{IsDistinct, IsPart, below, beside, distinct_once, found, has-part, here, part_below, part_beside, part_children, there as there_in, whole}
use Rattle.gui_layout.proofs.Renewals.{some-box}
use Rattle.gui_boxes.specs.Around.{IsFlat}
use Rattle.gui_layout.specs.Scenes.{scene_box}
use Rattle.gui_layout.specs.Scrolled.{scrolled_known}
use Rattle.gui_boxes.specs.Views.{box_at}
use Rattle.gui_boxes.specs.Touched.{IsAtRest}
use Rattle.gui_layout.proofs.Staying.{rests-none}
use Rattle.gui_layout.proofs.Without.{flat-kids}
use Rattle.gui_layout.proofs.Overs.{kids-same, root-in}
use Rattle.gui_layout.proofs.Rescrolled.{told-flat, unmarked-root}
use Rattle.gui_layout.proofs.Settling.{is_at, is_root, parent-root, root-has}

-- A reach that is read goes by the children alone.
flat-roots : (f g : Forest ℕ) (l : Layout) (k : ℕ) → roots (children_of f k) ≡ roots (children_of g k) → IsFlat g l k → IsFlat f l k
flat-roots f g l k same flat = record { still = flat.still; read = flat.read ∙ flat-kids l k (children_of g k) (children_of f k) (sym same) }

-- Children that stand by themselves, one by one.
stand-at : (k : ℕ) (known : ℕ → Known) (p : Known) (cs : Forest ℕ) → is_root k cs ≡ true → StandUnmarked nobody known p cs → StandsFree p (known k)
stand-at k known p Empty is all = absurd (false≢true is)
stand-at k known p (Tree h cs rest) is all = elim (cases_Bool (eqb h k)) [
  | inl same ↦ subst (λ j. StandsFree p (known j)) (eqb-true h k same) (all.0 refl)
  | inr other ↦ stand-at k known p rest (rw other at is) all.1
]

stand-each : (m : ℕ → Bool) (known : ℕ → Known) (p : Known) (cs : Forest ℕ) → ((k : ℕ) → is_root k cs ≡ true → m k ≡ false → StandsFree p (known k)) → StandUnmarked m known p cs
stand-each m known p Empty each = tt
stand-each m known p (Tree h cs rest) each = (λ un. each h (or_left (eqb h h) (is_root h rest) (eq-eqb h h refl)) un, stand-each m known p rest (λ k i. each k (or_right (eqb h k) (is_root k rest) i)))

module _ (p : Places) (scene : Scene) (s m c : ℕ → Bool) (once : StandsOnce (handles_of scene.trees)) (was : DiffersInMarks p scene s m c)
    (closed : (h k : ℕ) → s h ≡ true → is_root k (children_of (handles_of scene.trees) h) ≡ true → s k ≡ true) where
  abbrev f : Forest ℕ
  f = handles_of scene.trees

  abbrev old : ℕ → Known
  old = known_in p was.before

  abbrev new : ℕ → Known
  new = known_in p scene

  same : (k : ℕ) → has f k ≡ true → s k ≡ true → m k ≡ false → new k ≡ old k
  same k there looked un = ap (λ (b : Box). record (old k) { box = record b { handle = k } }) (was.each k there looked un).box

  -- a child that has not changed
  child : (h : ℕ) (cs rest : Forest ℕ) → IsPart f (Tree h cs rest) → s h ≡ true → (k : ℕ) → is_root k cs ≡ true → m k ≡ false → new k ≡ old k
  child h cs rest part looked k i un =
      let kids : children_of f h ≡ cs = (found part (distinct_once f once)).children in
      same k (has-part part k (or_right (eqb h k) (has cs k || has rest k) (or_left (has cs k) (has rest k) (root-has k cs i)))) (closed h k looked (subst (λ (t : Forest ℕ). is_root k t ≡ true) (sym kids) i)) un

  -- where the children are the same
  alike : (h : ℕ) (cs rest : Forest ℕ) → IsPart f (Tree h cs rest) → s h ≡ true → m h ≡ false → HasKids false m (children_of f h) (children_of (handles_of was.before.trees) h) → FitsBut m new h cs
  alike h cs rest part looked un same_kids =
      let there : has f h ≡ true = has-part part h (here h cs rest) in
      let kids : children_of f h ≡ cs = (found part (distinct_once f once)).children in
      let fits : Fits (old h) (roots (map_forest old cs)) =
      subst (Fits (old h)) (ap (map old) (sym same_kids ∙ ap (λ (t : Forest ℕ). roots t) kids) ∙ sym (roots-map old cs)) (was.each h there looked un).fits in
      but-alike s m old new h cs (same h there looked un) (child h cs rest part looked) (fits-left old m h cs fits)

  -- where they may be others, below an object that goes by none of them
  steady : (h : ℕ) (cs rest : Forest ℕ) → IsPart f (Tree h cs rest) → s h ≡ true → m h ≡ false → is_steady (new h).box ≡ true → HasKids true m (children_of f h) (children_of (handles_of was.before.trees) h) → HasNatural (new h) (roots (map_forest new cs)) × StandUnmarked m new (new h) cs
  steady h cs rest part looked un is among =
      let there : has f h ≡ true = has-part part h (here h cs rest) in
      let kids : children_of f h ≡ cs = (found part (distinct_once f once)).children in
      let g = children_of (handles_of was.before.trees) h in
      let here_same = same h there looked un in
      let was_steady : is_steady (old h).box ≡ true = ap (λ (k : Known). is_steady k.box) (sym here_same) ∙ is in
      let fits : Fits (old h) (roots (map_forest old g)) = subst (Fits (old h)) (sym (roots-map old g)) (was.each h there looked un).fits in
      let left : LeftBy true nobody old h g = subst (λ b. LeftBy b nobody old h g) was_steady (fits-left old nobody h g fits) in (
        subst (λ (k : Known). HasNatural k (roots (map_forest new cs))) (sym here_same) (natural-others (old h) (roots (map_forest old g)) (roots (map_forest new cs)) (steady-is (old h).box was_steady) left.0),
        subst (λ (k : Known). StandUnmarked m new k cs) (sym here_same)
            (stand-each m new (old h) cs (λ k i off. subst (StandsFree (old h)) (sym (child h cs rest part looked k i off)) (stand-at k old (old h) g (among k (subst (λ (t : Forest ℕ). is_root k t ≡ true) (sym kids) i) off) left.1))),
      )

  graded : (on : Bool) (b : Bool) (h : ℕ) (cs rest : Forest ℕ) → IsPart f (Tree h cs rest) → s h ≡ true → m h ≡ false → c h ≡ on → is_steady (new h).box ≡ b →
      HasKids on m (children_of f h) (children_of (handles_of was.before.trees) h) → LeftOf b m c new h cs
  graded false b h cs rest part looked un off is kids = left-graded b m c new h cs (subst (λ a. LeftBy a m new h cs) is (alike h cs rest part looked un kids))
  graded true true h cs rest part looked un on is kids = steady h cs rest part looked un is kids
  graded true false h cs rest part looked un on is kids = λ off. absurd (both_ways (c h) off on)

  one : (h : ℕ) (cs rest : Forest ℕ) → IsPart f (Tree h cs rest) → s h ≡ true → m h ≡ false → LeftOf (is_steady (new h).box) m c new h cs
  one h cs rest part looked un = graded (c h) (is_steady (new h).box) h cs rest part looked un refl refl (was.each h (has-part part h (here h cs rest)) looked un).kids

  all : (g : Forest ℕ) → IsPart f g → AllFitButBoth s m c new g
  all Empty part = tt
  all (Tree h cs rest) part = (λ looked un. one h cs rest part looked un, all cs (part_below part), all rest (part_beside part))

  fills : (g : Forest ℕ) → ((k : ℕ) → is_root k g ≡ true → is_root k f ≡ true) → AllFillBut s m scene.limits.width scene.limits.height new g
  fills Empty tops = tt
  fills (Tree h cs rest) tops = (
    λ looked un.
        let top : is_root h f ≡ true = tops h (or_left (eqb h h) (is_root h rest) (eq-eqb h h refl)) in
        let there : has f h ≡ true = root-has h f top in
        subst (FillsPanel scene.limits.width scene.limits.height) (sym (same h there looked un)) ((was.each h there looked un).fills (parent-root h None f (distinct_once f once) top)),
    fills rest (λ k i. tops k (or_right (eqb h k) (is_root k rest) i)),
  )

  -- they are right but for the marks
  pub right_but : AreRightBut p scene s m c
  right_but = record {
    boxes = λ k there looked un. let at = was.each k there looked un in at.known ∙ ap but_height (sym at.box);
    placed = λ k there looked un. (was.each k there looked un).placed;
    fit = all f whole;
    fill = fills f (λ k i. i);
    calm = was.calm;
    scrolled = λ k there looked un off looks.
        let at = was.each k there looked un in
        let g = children_of (handles_of was.before.trees) k in
        let kids : roots (children_of f k) ≡ roots g = subst (λ on. HasKids on m (children_of f k) g) off at.kids in
        let kid_same : (j : ℕ) → is_root j (children_of f k) ≡ true → new j ≡ old j = λ j kid. same j (root-in f j k kid) (looks.looked j kid) (unmarked-root m (children_of f k) j looks.unchanged kid) in
        at.scrolled
        ∙ (ap (λ (ks : List Known). scrolled_known (old k) ks) (roots-map old g ∙ (ap (map old) (sym kids) ∙ (sym (roots-map old (children_of f k)) ∙ sym (kids-same old new (children_of f k) kid_same))))
        ∙ ap (λ (i : Known). scrolled_known i (roots (map_forest new (children_of f k)))) (sym (same k there looked un)));
  }

-- What stands below an object of the marked trees is one of theirs.
pub marked-closed : (w : ℕ → Bool) (h k : ℕ) (g : Forest ℕ) → IsDistinct g → has (marked_trees w g) h ≡ true → is_root k (children_of g h) ≡ true → has (marked_trees w g) k ≡ true
marked-closed w h k Empty distinct is kid = absurd (false≢true is)
marked-closed w h k (Tree t cs rest) distinct is kid = elim (cases_Bool (w t || has_by w cs)) [
  | inl some ↦
      let there : has (Tree t cs (marked_trees w rest)) h ≡ true = rw some at is in
      rw some (elim (cases_Bool (eqb t h)) [
        | inl top ↦ inner (root-has k cs (rw top at kid))
        | inr other ↦ elim (cases_Bool (has cs h)) [
          | inl low ↦ inner (has-part (part_children cs h) k (root-has k (children_of cs h) (rw (other, low) at kid)))
          | inr out ↦
              let later = marked-closed w h k rest distinct.4 (rw (other, out) at there) (rw (other, out) at kid) in
              or_right (eqb t k) (has cs k || has (marked_trees w rest) k) (or_right (has cs k) (has (marked_trees w rest) k) later)
        ]
      ])
  | inr none ↦
      let later : has (marked_trees w rest) h ≡ true = rw none at is in
      let beside_it : has rest h ≡ true = marked-has w h rest later in
      let other : eqb t h ≡ false = false_from_ne_true (eqb t h) (λ e. both_ways (has rest t) distinct.2 (subst (λ j. has rest j ≡ true) (sym (eqb-true t h e)) beside_it)) in
      let out : has cs h ≡ false = false_from_ne_true (has cs h) (λ i. both_ways (has rest h) (distinct.0 h i) beside_it) in
      rw none (marked-closed w h k rest distinct.4 later (rw (other, out) at kid))
]
  where
    inner : has cs k ≡ true → has (Tree t cs (marked_trees w rest)) k ≡ true
    inner i = or_right (eqb t k) (has cs k || has (marked_trees w rest) k) (or_left (has cs k) (has (marked_trees w rest) k) i)

-- so are the marked trees
pub right_marked : (p : Places) (scene : Scene) (w m c : ℕ → Bool) → StandsOnce (handles_of scene.trees) → DiffersInMarks p scene (in_marked w scene) m c → AreRightBut p scene (in_marked w scene) m c
right_marked p scene w m c once was = right_but p scene (in_marked w scene) m c once was (λ h k looked kid. marked-closed w h k (handles_of scene.trees) (distinct_once (handles_of scene.trees) once) looked kid)

-- what is right of all objects is right of some
fit-fewer : (s t m c : ℕ → Bool) (known : ℕ → Known) (g : Forest ℕ) → ((k : ℕ) → t k ≡ true → s k ≡ true) → AllFitButBoth s m c known g → AllFitButBoth t m c known g
fit-fewer s t m c known Empty fewer all = tt
fit-fewer s t m c known (Tree h cs rest) fewer all = (λ looked un. all.0 (fewer h looked) un, fit-fewer s t m c known cs fewer all.1, fit-fewer s t m c known rest fewer all.2)

pub right_fewer : (p : Places) (scene : Scene) (s t m c : ℕ → Bool) → ((k : ℕ) → t k ≡ true → s k ≡ true) → AreRightBut p scene s m c → AreRightBut p scene t m c
right_fewer p scene s t m c fewer was = record {
  boxes = λ k there looked un. was.boxes k there (fewer k looked) un;
  placed = λ k there looked un. was.placed k there (fewer k looked) un;
  fit = fit-fewer s t m c (known_in p scene) (handles_of scene.trees) fewer was.fit;
  fill = fill-fewer s t m m scene.limits.width scene.limits.height (known_in p scene) (handles_of scene.trees) fewer (λ k un. un) was.fill;
  calm = λ k there looked. was.calm k there (fewer k looked);
  scrolled = λ k there looked un off looks. was.scrolled k there (fewer k looked) un off (record { looked = λ j kid. fewer j (looks.looked j kid); unchanged = looks.unchanged });
}

-- Where no object is looked at, there is nothing to say.
fit-unseen : (s m c : ℕ → Bool) (known : ℕ → Known) (g : Forest ℕ) → ((k : ℕ) → s k ≡ false) → AllFitButBoth s m c known g
fit-unseen s m c known Empty unseen = tt
fit-unseen s m c known (Tree h cs rest) unseen = (λ looked un. absurd (both_ways (s h) (unseen h) looked), fit-unseen s m c known cs unseen, fit-unseen s m c known rest unseen)

fill-unseen : (s m : ℕ → Bool) (width height : ℕ) (known : ℕ → Known) (g : Forest ℕ) → ((k : ℕ) → s k ≡ false) → AllFillBut s m width height known g
fill-unseen s m width height known Empty unseen = tt
fill-unseen s m width height known (Tree h cs rest) unseen = (λ looked un. absurd (both_ways (s h) (unseen h) looked), fill-unseen s m width height known rest unseen)

unmarked-trees : (w : ℕ → Bool) (g : Forest ℕ) → ((k : ℕ) → w k ≡ false) → marked_trees w g ≡ Empty
unmarked-trees w Empty none = refl
unmarked-trees w (Tree h cs rest) none = rw (none h, below cs) (unmarked-trees w rest none)
  where
    below : (g : Forest ℕ) → has_by w g ≡ false
    below Empty = refl
    below (Tree k ks later) = rw (none k, below ks) (below later)

-- so it is where no object is marked, whatever the places are and whatever the scene
pub right_unmarked : (p : Places) (scene : Scene) (w m c : ℕ → Bool) → ((k : ℕ) → w k ≡ false) → AreRightBut p scene (in_marked w scene) m c
right_unmarked p scene w m c none =
    let unseen : (k : ℕ) → in_marked w scene k ≡ false = λ k. ap (λ (t : Forest ℕ). has t k) (unmarked-trees w (handles_of scene.trees) none) in
    record {
      boxes = λ k there looked un. absurd (both_ways (in_marked w scene k) (unseen k) looked);
      placed = λ k there looked un. absurd (both_ways (in_marked w scene k) (unseen k) looked);
      fit = fit-unseen (in_marked w scene) m c (known_in p scene) (handles_of scene.trees) unseen;
      fill = fill-unseen (in_marked w scene) m scene.limits.width scene.limits.height (known_in p scene) (handles_of scene.trees) unseen;
      scrolled = λ k there looked un off looks. absurd (both_ways (in_marked w scene k) (unseen k) looked);
      calm = λ k there looked. absurd (both_ways (in_marked w scene k) (unseen k) looked);
    }

-- Trees that fit part by part.
pub fit-part : (known : ℕ → Known) {f g : Forest ℕ} → IsPart f g → AllFit (map_forest known f) → AllFit (map_forest known g)
fit-part known whole fit = fit
fit-part known (below part) fit = fit-part known part fit.1
fit-part known (beside part) fit = fit-part known part fit.2

-- an object that has nothing above it is a root
pub root-of : (k : ℕ) (above : Option ℕ) (f : Forest ℕ) → has f k ≡ true → parent_by (is_at k) above f ≡ None → is_root k f ≡ true
root-of k above Empty there none = there
root-of k above (Tree h cs rest) there none = elim (cases_Bool (eqb h k)) [
  | inl is ↦ or_left (eqb h k) (is_root k rest) is
  | inr isnt ↦ elim (cases_Bool (has cs k)) [
    | inl inside ↦ absurd (deep k h cs inside (rw (isnt, inside) at none))
    | inr out ↦ or_right (eqb h k) (is_root k rest) (root-of k above rest (rw (isnt, out) at there) (rw (isnt, out) at none))
  ]
]
  where
    deep : (k h : ℕ) (g : Forest ℕ) → has g k ≡ true → parent_by (is_at k) (Some h) g ≡ None → ⊥
    deep k h Empty there none = false≢true there
    deep k h (Tree j cs rest) there none = elim (cases_Bool (eqb j k)) [
      | inl is ↦ let e : Some h ≡ None = rw is at none in cc
      | inr isnt ↦ elim (cases_Bool (has cs k)) [
        | inl inside ↦ deep k j cs inside (rw (isnt, inside) at none)
        | inr out ↦ deep k h rest (rw (isnt, out) at there) (rw (isnt, out) at none)
      ]
    ]

pub fill-at : (width height k : ℕ) (known : ℕ → Known) (f : Forest ℕ) → is_root k f ≡ true → AllFill width height (roots (map_forest known f)) → FillsPanel width height (known k)
fill-at width height k known Empty is fill = absurd (false≢true is)
fill-at width height k known (Tree h cs rest) is fill = elim (cases_Bool (eqb h k)) [
  | inl same ↦ subst (λ j. FillsPanel width height (known j)) (eqb-true h k same) fill.0
  | inr other ↦ fill-at width height k known rest (rw other at is) fill.1
]

-- Where all was settled for a scene that differs in marked objects alone, all is right but for the marks.
module _ (p : Places) (before scene : Scene) (m c : ℕ → Bool) (settled : AreSettled p before) (once_before : StandsOnce (handles_of before.trees)) (once : StandsOnce (handles_of scene.trees)) (limits : scene.limits ≡ before.limits)
    (same : (k : ℕ) → m k ≡ false → IsUnmoved before scene m c k) where
  boxed : (j : ℕ) → has (handles_of before.trees) j ≡ true → but_height (box_at (layout_of p).boxes j) ≡ but_height (scene_box before j)
  boxed j is_there = settled.boxes j (some-box p.entries j (settled.there j ∙ is_there))

  was_solved : (k : ℕ) → has (handles_of scene.trees) k ≡ true → m k ≡ false → WasSolved p before scene m c k
  was_solved k there un =
      let g = handles_of before.trees in
      let is = same k un in
      let here_before : has g k ≡ true = sym is.there ∙ there in
      let at = there_in g k here_before in
      let known = known_in p before in
      let fit : AllFit (map_forest known (Tree k at.children at.rest)) = fit-part known at.part settled.settled.fit in
      let kids : children_of g k ≡ at.children = (found at.part (distinct_once g once_before)).children in
      let all_fit : Fits (known k) (roots (map_forest known (children_of g k))) = subst (λ (t : Forest ℕ). Fits (known k) (roots (map_forest known t))) (sym kids) fit.0 in
      record {
        box = is.box;
        kids = is.kids;
        known = boxed k here_before;
        placed = settled.there k ∙ here_before;
        fits = subst (Fits (known k)) (roots-map known (children_of g k)) all_fit;
        fills = λ none.
            subst (λ (b : Bounds). FillsPanel b.width b.height (known k)) (sym limits)
            (fill-at before.limits.width before.limits.height k known g (root-of k None g here_before (is.root none)) settled.settled.fill);
        scrolled = settled.scrolled k here_before;
      }

  -- the reach is read of each that has not changed and moves no children, where these are the same
  pub flat-before : (k : ℕ) → has (handles_of scene.trees) k ≡ true → m k ≡ false → c k ≡ false → (box_at (layout_of p).boxes k).scrollable ≡ false → IsFlat (handles_of scene.trees) (layout_of p) k
  flat-before k there un off still =
      let f = handles_of scene.trees in
      let g = handles_of before.trees in
      let at = was_solved k there un in
      let kids : roots (children_of f k) ≡ roots (children_of g k) = subst (λ on. HasKids on m (children_of f k) (children_of g k)) off at.kids in
      let fits : Fits (known_in p before k) (roots (map_forest (known_in p before) (children_of g k))) = subst (Fits (known_in p before k)) (sym (roots-map (known_in p before) (children_of g k))) at.fits in
      flat-roots f g (layout_of p) k kids (told-flat (scene_box before) (layout_of p) g k at.scrolled at.known (λ j kid. boxed j (root-in g j k kid)) fits still)

  -- what was not there has no entry, and all else is at rest
  calm-before : (k : ℕ) → IsAtRest (layout_of p) k
  calm-before k = elim (cases_Bool (has (handles_of before.trees) k)) [
    | inl was ↦ settled.calm k was
    | inr none ↦ rests-none p.entries k (settled.there k ∙ none)
  ]

  pub settled_but_marks : AreSettledButMarks p scene m c
  settled_but_marks = record {
    right = right_but p scene anyone m c once (record { before = before; each = λ k there looked un. was_solved k there un; calm = λ k there looked. calm-before k }) (λ h k looked kid. refl);
    there = λ k un. settled.there k ∙ sym (same k un).there;
  }
