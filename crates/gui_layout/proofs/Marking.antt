-- Trees that are settled anew one after another, and what is left of the marks.
use Rattle.std.proofs.Common.{◌≡◌, ◌∙◌, refl, sym, ap, subst, ℕ, Bool, true, false, eqb, eq-eqb, ◌||◌, ◌&&◌, List, ◌∷◌, map, Option, Some, inl, inr}
use Rattle.std.specs.Prelude.{not}
use Rattle.std.proofs.lemmas.Bool.{cases_Bool, and_parts, eqb-true, or_left, or_right, or_cases, or_parts, both_ways, false_from_ne_true, false≢true}
use Rattle.gui_base.specs.Forest.{Forest, Empty, Tree, has, has_by, roots, map_forest, tree_at, parent_by}
use Rattle.layout_defs.specs.declared.Course.{Course}
use Rattle.layout_defs.specs.declared.Course.TheVariants.{Free, Across, Down}
use Rattle.layout_defs.specs.Boxes.{Box, course_of}
use Rattle.gui_layout.specs.Marked.{marked_trees, is_any_root, HasNatural, StandUnmarked, LeftBy, LeftOf, FitsBut, AllFitBut, AllFitButBoth, AllFillBut}
use Rattle.gui_boxes.specs.Settled.{Known, wide_of, tall_of, Fits, AllFit, AllFill, FillsPanel, StandsFree, IsSteady, is_steady, is_free, is_content}
use Rattle.gui_layout.specs.Settles.{LetsStand}
use Rattle.gui_boxes.proofs.Keeps.{elsewhere}
use Rattle.gui_tree.proofs.Parts.{IsDistinct}
use Rattle.gui_boxes.proofs.InTrees.{tree-in}
use Rattle.gui_layout.proofs.Settling.{is_root, root-has, root-out, is_at, parent-root, AllFree, fits-free, free-wide, free-stand, free-widths, free-slots, width-steady, height-steady}

-- What is steady by its test is so.
free-is : (course : Course) → is_free course ≡ true → course ≡ Free
free-is Free is = refl
free-is Across is = absurd (false≢true is)
free-is Down is = absurd (false≢true is)

not-true : (b : Bool) → not b ≡ true → b ≡ false
not-true true is = absurd (false≢true is)
not-true false is = refl

pub steady-is : (box : Box) → is_steady box ≡ true → IsSteady box
steady-is box is =
    let a : (is_free (course_of box.flow) ≡ true) × ((not box.scrollable && (not (is_content box.across.size) && not (is_content box.down.size))) ≡ true) = and_parts _ _ is in
    let s : (not box.scrollable ≡ true) × ((not (is_content box.across.size) && not (is_content box.down.size)) ≡ true) = and_parts _ _ a.1 in
    let b : (not (is_content box.across.size) ≡ true) × (not (is_content box.down.size) ≡ true) = and_parts _ _ s.1 in
    record { free = free-is (course_of box.flow) a.0; still = not-true _ s.0; wide = not-true _ b.0; high = not-true _ b.1 }

-- and a steady box is so by its test
pub is-steady : (box : Box) → IsSteady box → is_steady box ≡ true
is-steady box steady =
    ap (λ (course : Course). is_free course && (not box.scrollable && (not (is_content box.across.size) && not (is_content box.down.size)))) steady.free
    ∙ (ap (λ b. not b && (not (is_content box.across.size) && not (is_content box.down.size))) steady.still
    ∙ (ap (λ b. not b && not (is_content box.down.size)) steady.wide ∙ ap not steady.high))

-- A steady object fits where its natural sizes are right and its children stand by themselves.
fits-alone : (p : Known) (ks : List Known) → IsSteady p.box → HasNatural p ks → AllFree p ks → Fits p ks
fits-alone p ks steady natural all = record {
  natural_width = natural.natural_width;
  widths = free-wide p ks all ∙ sym (free-widths p.box p.width (map wide_of ks) steady.free);
  natural_height = natural.natural_height;
  slots = free-stand p ks all ∙ sym (free-slots (tall_of p) p.slot (map tall_of ks) steady.free steady.still);
}

-- Its natural sizes follow from whatever children it has.
pub natural-others : (p : Known) (some others : List Known) → IsSteady p.box → HasNatural p some → HasNatural p others
natural-others p some others steady natural = record {
  natural_width = natural.natural_width ∙ width-steady p.box (map wide_of some) (map wide_of others) steady.wide;
  natural_height = natural.natural_height ∙ height-steady p.box p.width (map tall_of some) (map tall_of others) steady.high;
}

-- What fits is right whatever is marked, and what is right fits where nothing is marked.
module _ (known : ℕ → Known) where
  abbrev kids : Forest ℕ → List Known
  kids cs = roots (map_forest known cs)

  stand : (m : ℕ → Bool) (p : Known) (cs : Forest ℕ) → AllFree p (kids cs) → StandUnmarked m known p cs
  stand m p Empty all = tt
  stand m p (Tree h cs rest) all = (λ un. all.0, stand m p rest all.1)

  free : (m : ℕ → Bool) (p : Known) (cs : Forest ℕ) → is_any_root m cs ≡ false → StandUnmarked m known p cs → AllFree p (kids cs)
  free m p Empty none all = tt
  free m p (Tree h cs rest) none all =
      let parts : (m h ≡ false) × (is_any_root m rest ≡ false) = or_parts (m h) (is_any_root m rest) none in
      (all.0 parts.0, free m p rest parts.1 all.1)

  left-by : (b : Bool) (m : ℕ → Bool) (h : ℕ) (cs : Forest ℕ) → is_steady (known h).box ≡ b → Fits (known h) (kids cs) → LeftBy b m known h cs
  left-by true m h cs is fits = (record { natural_width = fits.natural_width; natural_height = fits.natural_height }, stand m (known h) cs (fits-free (known h) (kids cs) (steady-is (known h).box is) fits))
  left-by false m h cs is fits = λ none. fits

  pub fits-left : (m : ℕ → Bool) (h : ℕ) (cs : Forest ℕ) → Fits (known h) (kids cs) → FitsBut m known h cs
  fits-left m h cs fits = left-by (is_steady (known h).box) m h cs refl fits

  fits-by : (b : Bool) (m : ℕ → Bool) (h : ℕ) (cs : Forest ℕ) → is_steady (known h).box ≡ b → is_any_root m cs ≡ false → LeftBy b m known h cs → Fits (known h) (kids cs)
  fits-by true m h cs is none left = fits-alone (known h) (kids cs) (steady-is (known h).box is) left.0 (free m (known h) cs none left.1)
  fits-by false m h cs is none left = left none

  pub left-fits : (m : ℕ → Bool) (h : ℕ) (cs : Forest ℕ) → is_any_root m cs ≡ false → FitsBut m known h cs → Fits (known h) (kids cs)
  left-fits m h cs none left = fits-by (is_steady (known h).box) m h cs refl none left

  -- trees that fit are right
  pub all-left : (s m : ℕ → Bool) (f : Forest ℕ) → AllFit (map_forest known f) → AllFitBut s m known f
  all-left s m Empty fit = tt
  all-left s m (Tree h cs rest) fit = (λ looked un. fits-left m h cs fit.0, all-left s m cs fit.1, all-left s m rest fit.2)

  pub none-marked : (m : ℕ → Bool) (cs : Forest ℕ) → ((k : ℕ) → has cs k ≡ true → m k ≡ false) → is_any_root m cs ≡ false
  none-marked m Empty none = refl
  none-marked m (Tree h cs rest) none =
      let own : m h ≡ false = none h (or_left (eqb h h) (has cs h || has rest h) (eq-eqb h h refl)) in
      rw own (none-marked m rest (λ k i. none k (or_right (eqb h k) (has cs k || has rest k) (or_right (has cs k) (has rest k) i))))

  -- trees that are right fit where nothing in them is marked and all of them are looked at
  pub all-fits : (s m : ℕ → Bool) (f : Forest ℕ) → ((k : ℕ) → has f k ≡ true → m k ≡ false) → ((k : ℕ) → has f k ≡ true → s k ≡ true) → AllFitBut s m known f → AllFit (map_forest known f)
  all-fits s m Empty none looked all = tt
  all-fits s m (Tree h cs rest) none looked all =
      let own : has (Tree h cs rest) h ≡ true = or_left (eqb h h) (has cs h || has rest h) (eq-eqb h h refl) in
      let below : (k : ℕ) → has cs k ≡ true → has (Tree h cs rest) k ≡ true = λ k i. or_right (eqb h k) (has cs k || has rest k) (or_left (has cs k) (has rest k) i) in
      let beside : (k : ℕ) → has rest k ≡ true → has (Tree h cs rest) k ≡ true = λ k i. or_right (eqb h k) (has cs k || has rest k) (or_right (has cs k) (has rest k) i) in (
        left-fits m h cs (none-marked m cs (λ k i. none k (below k i))) (all.0 (looked h own) (none h own)),
        all-fits s m cs (λ k i. none k (below k i)) (λ k i. looked k (below k i)) all.1,
        all-fits s m rest (λ k i. none k (beside k i)) (λ k i. looked k (beside k i)) all.2,
      )

-- What is known of marked objects does not matter.
module _ (s m : ℕ → Bool) (old new : ℕ → Known) where
  abbrev Known_alike : ℕ → Type 0
  Known_alike k = m k ≡ false → new k ≡ old k

  roots-alike : (cs : Forest ℕ) → ((k : ℕ) → is_root k cs ≡ true → Known_alike k) → is_any_root m cs ≡ false → roots (map_forest new cs) ≡ roots (map_forest old cs)
  roots-alike Empty same none = refl
  roots-alike (Tree h cs rest) same none =
      let parts : (m h ≡ false) × (is_any_root m rest ≡ false) = or_parts (m h) (is_any_root m rest) none in
      ap (λ (k : Known). k ∷ roots (map_forest new rest)) (same h (or_left (eqb h h) (is_root h rest) (eq-eqb h h refl)) parts.0)
      ∙ ap (λ ks. old h ∷ ks) (roots-alike rest (λ k i. same k (or_right (eqb h k) (is_root k rest) i)) parts.1)

  stand-alike : (p : Known) (cs : Forest ℕ) → ((k : ℕ) → is_root k cs ≡ true → Known_alike k) → StandUnmarked m old p cs → StandUnmarked m new p cs
  stand-alike p Empty same all = tt
  stand-alike p (Tree h cs rest) same all = (
    λ un. subst (StandsFree p) (sym (same h (or_left (eqb h h) (is_root h rest) (eq-eqb h h refl)) un)) (all.0 un),
    stand-alike p rest (λ k i. same k (or_right (eqb h k) (is_root k rest) i)) all.1,
  )

  left-alike : (b : Bool) (h : ℕ) (cs : Forest ℕ) → is_steady (old h).box ≡ b → new h ≡ old h → ((k : ℕ) → is_root k cs ≡ true → Known_alike k) → LeftBy b m old h cs → LeftBy b m new h cs
  left-alike true h cs steady own same left = (
    subst (λ (k : Known). HasNatural k (roots (map_forest new cs))) (sym own) (natural-others (old h) (roots (map_forest old cs)) (roots (map_forest new cs)) (steady-is (old h).box steady) left.0),
    subst (λ (k : Known). StandUnmarked m new k cs) (sym own) (stand-alike (old h) cs same left.1),
  )
  left-alike false h cs steady own same left = λ none.
      subst (λ (k : Known). Fits k (roots (map_forest new cs))) (sym own) (subst (Fits (old h)) (sym (roots-alike cs same none)) (left none))

  pub but-alike : (h : ℕ) (cs : Forest ℕ) → new h ≡ old h → ((k : ℕ) → is_root k cs ≡ true → Known_alike k) → FitsBut m old h cs → FitsBut m new h cs
  but-alike h cs own same left = subst (λ b. LeftBy b m new h cs) (ap (λ (k : Known). is_steady k.box) (sym own)) (left-alike (is_steady (old h).box) h cs refl own same left)

  pub all-alike : (f : Forest ℕ) → ((k : ℕ) → has f k ≡ true → Known_alike k) → AllFitBut s m old f → AllFitBut s m new f
  all-alike Empty same all = tt
  all-alike (Tree h cs rest) same all =
      let below : (k : ℕ) → has cs k ≡ true → Known_alike k = λ k i. same k (or_right (eqb h k) (has cs k || has rest k) (or_left (has cs k) (has rest k) i)) in (
        λ looked un. but-alike h cs (same h (or_left (eqb h h) (has cs h || has rest h) (eq-eqb h h refl)) un) (λ k i. below k (root-has k cs i)) (all.0 looked un),
        all-alike cs below all.1,
        all-alike rest (λ k i. same k (or_right (eqb h k) (has cs k || has rest k) (or_right (has cs k) (has rest k) i))) all.2,
      )

  pub fill-alike : (width height : ℕ) (f : Forest ℕ) → ((k : ℕ) → has f k ≡ true → Known_alike k) → AllFillBut s m width height old f → AllFillBut s m width height new f
  fill-alike width height Empty same fill = tt
  fill-alike width height (Tree h cs rest) same fill = (
    λ looked un. subst (FillsPanel width height) (sym (same h (or_left (eqb h h) (has cs h || has rest h) (eq-eqb h h refl)) un)) (fill.0 looked un),
    fill-alike width height rest (λ k i. same k (or_right (eqb h k) (has cs k || has rest k) (or_right (has cs k) (has rest k) i))) fill.1,
  )

-- nothing else is known of an object, and its mark is left
pub record Stays (old new : ℕ → Known) (m n : ℕ → Bool) (k : ℕ) : Type 0 where
  pub known : new k ≡ old k
  pub mark : n k ≡ m k

-- The tree of u is settled anew: nothing else is known of other objects, and other marks are left.
module _ (s : ℕ → Bool) (old new : ℕ → Known) (m n : ℕ → Bool) (u : ℕ) where
  any-kept : (cs : Forest ℕ) → ((k : ℕ) → is_root k cs ≡ true → Stays old new m n k) → is_any_root n cs ≡ is_any_root m cs
  any-kept Empty same = refl
  any-kept (Tree h cs rest) same =
      ap (λ b. b || is_any_root n rest) (same h (or_left (eqb h h) (is_root h rest) (eq-eqb h h refl))).mark
      ∙ ap (λ b. m h || b) (any-kept rest (λ k i. same k (or_right (eqb h k) (is_root k rest) i)))

  roots-kept : (f : Forest ℕ) → ((k : ℕ) → is_root k f ≡ true → Stays old new m n k) → roots (map_forest new f) ≡ roots (map_forest old f)
  roots-kept Empty same = refl
  roots-kept (Tree h cs rest) same =
      ap (λ (k : Known). k ∷ roots (map_forest new rest)) (same h (or_left (eqb h h) (is_root h rest) (eq-eqb h h refl))).known
      ∙ ap (λ ks. old h ∷ ks) (roots-kept rest (λ k i. same k (or_right (eqb h k) (is_root k rest) i)))

  stand-kept : (p : Known) (cs : Forest ℕ) → ((k : ℕ) → is_root k cs ≡ true → Stays old new m n k) → StandUnmarked m old p cs → StandUnmarked n new p cs
  stand-kept p Empty same all = tt
  stand-kept p (Tree h cs rest) same all =
      let own = same h (or_left (eqb h h) (is_root h rest) (eq-eqb h h refl)) in (
        λ un. subst (StandsFree p) (sym own.known) (all.0 (sym own.mark ∙ un)),
        stand-kept p rest (λ k i. same k (or_right (eqb h k) (is_root k rest) i)) all.1,
      )

  left-kept : (b : Bool) (h : ℕ) (cs : Forest ℕ) → new h ≡ old h → ((k : ℕ) → is_root k cs ≡ true → Stays old new m n k) → LeftBy b m old h cs → LeftBy b n new h cs
  left-kept true h cs own same left = (
    subst (λ (k : Known). HasNatural k (roots (map_forest new cs))) (sym own) (subst (HasNatural (old h)) (sym (roots-kept cs same)) left.0),
    subst (λ (k : Known). StandUnmarked n new k cs) (sym own) (stand-kept (old h) cs same left.1),
  )
  left-kept false h cs own same left = λ none.
      subst (λ (k : Known). Fits k (roots (map_forest new cs))) (sym own) (subst (Fits (old h)) (sym (roots-kept cs same)) (left (sym (any-kept cs same) ∙ none)))

  but-kept : (h : ℕ) (cs : Forest ℕ) → new h ≡ old h → ((k : ℕ) → is_root k cs ≡ true → Stays old new m n k) → FitsBut m old h cs → FitsBut n new h cs
  but-kept h cs own same left =
      subst (λ b. LeftBy b n new h cs) (ap (λ (k : Known). is_steady k.box) (sym own)) (left-kept (is_steady (old h).box) h cs own same left)

  -- what lies elsewhere is right still
  kept : (f : Forest ℕ) → ((k : ℕ) → has f k ≡ true → Stays old new m n k) → AllFitBut s m old f → AllFitBut s n new f
  kept Empty same all = tt
  kept (Tree h cs rest) same all =
      let own = same h (or_left (eqb h h) (has cs h || has rest h) (eq-eqb h h refl)) in
      let below : (k : ℕ) → has cs k ≡ true → Stays old new m n k = λ k i. same k (or_right (eqb h k) (has cs k || has rest k) (or_left (has cs k) (has rest k) i)) in (
        λ looked un. but-kept h cs own.known (λ k i. below k (root-has k cs i)) (all.0 looked (sym own.mark ∙ un)),
        kept cs below all.1,
        kept rest (λ k i. same k (or_right (eqb h k) (has cs k || has rest k) (or_right (has cs k) (has rest k) i))) all.2,
      )

  -- the children of the parent, u among them
  free-kept : (p : Known) (cs : Forest ℕ) → ((k : ℕ) → is_root k cs ≡ true → eqb k u ≡ false → Stays old new m n k) → StandsFree p (new u) → StandUnmarked m old p cs → StandUnmarked n new p cs
  free-kept p Empty same stands all = tt
  free-kept p (Tree h cs rest) same stands all = (
    λ un. elim (cases_Bool (eqb h u)) [
      | inl is ↦ subst (λ k. StandsFree p (new k)) (sym (eqb-true h u is)) stands
      | inr other ↦ let own = same h (or_left (eqb h h) (is_root h rest) (eq-eqb h h refl)) other in subst (StandsFree p) (sym own.known) (all.0 (sym own.mark ∙ un))
    ],
    free-kept p rest (λ k i. same k (or_right (eqb h k) (is_root k rest) i)) stands all.1,
  )

  parent-kept : (h : ℕ) (cs : Forest ℕ) → new h ≡ old h → ((k : ℕ) → is_root k cs ≡ true → eqb k u ≡ false → Stays old new m n k) → LetsStand old new u (Some h) → FitsBut m old h cs → FitsBut n new h cs
  parent-kept h cs own same lets left =
      let steady : is_steady (old h).box ≡ true = is-steady (old h).box lets.0 in
      let was : LeftBy true m old h cs = subst (λ b. LeftBy b m old h cs) steady left in
      let now : LeftBy true n new h cs = (
        subst (λ (k : Known). HasNatural k (roots (map_forest new cs))) (sym own) (natural-others (old h) (roots (map_forest old cs)) (roots (map_forest new cs)) lets.0 was.0),
        subst (λ (k : Known). StandUnmarked n new k cs) (sym own) (free-kept (old h) cs same lets.1 was.1),
      ) in
      subst (λ b. LeftBy b n new h cs) (sym (ap (λ (k : Known). is_steady k.box) own ∙ steady)) now

  -- All that was right is so still, and u's tree is right, whatever was marked there.
  pub step : (above : Option ℕ) (f : Forest ℕ) → IsDistinct f → has f u ≡ true → ((k : ℕ) → has (tree_at f u) k ≡ false → Stays old new m n k) → LetsStand old new u (parent_by (is_at u) above f) → AllFitBut s m old f → AllFit (map_forest new (tree_at f u)) → AllFitBut s n new f
  step above Empty distinct there same lets all anew = tt
  step above (Tree h cs rest) distinct there same lets all anew = elim (cases_Bool (eqb h u)) [
    | inl is ↦
        let tree : tree_at (Tree h cs rest) u ≡ Tree h cs Empty = rw is refl in
        let now : AllFit (map_forest new (Tree h cs Empty)) = subst (λ t. AllFit (map_forest new t)) tree anew in
        (λ looked un. fits-left new n h cs now.0, all-left new s n cs now.1, kept rest (λ k i. same k (subst (λ t. has t k ≡ false) (sym tree) (later k i))) all.2)
    | inr isnt ↦ elim (cases_Bool (has cs u)) [
      | inl below ↦
          let tree : tree_at (Tree h cs rest) u ≡ tree_at cs u = rw (isnt, below) refl in
          let same_below : (k : ℕ) → has (tree_at cs u) k ≡ false → Stays old new m n k = λ k out. same k (subst (λ t. has t k ≡ false) (sym tree) out) in
          let own = same_below h (false_from_ne_true (has (tree_at cs u) h) (λ i. both_ways (has cs h) distinct.1 (tree-in u h cs i))) in
          let lets_below : LetsStand old new u (parent_by (is_at u) (Some h) cs) = subst (LetsStand old new u) (rw (isnt, below) refl) lets in (
            λ looked un. elim (cases_Bool (is_root u cs)) [
              | inl root ↦ parent-kept h cs own.known (λ k i other. same_below k (root-out u k cs distinct.3 i other)) (subst (LetsStand old new u) (parent-root u (Some h) cs distinct.3 root) lets_below) (all.0 looked (sym own.mark ∙ un))
              | inr deep ↦ but-kept h cs own.known (λ k i. same_below k (root-out u k cs distinct.3 i (other_root k i deep))) (all.0 looked (sym own.mark ∙ un))
            ],
            step (Some h) cs distinct.3 below same_below lets_below all.1 (subst (λ t. AllFit (map_forest new t)) tree anew),
            kept rest (λ k i. same_below k (false_from_ne_true (has (tree_at cs u) k) (λ j. both_ways (has rest k) (distinct.0 k (tree-in u k cs j)) i))) all.2,
          )
      | inr out ↦
          let tree : tree_at (Tree h cs rest) u ≡ tree_at rest u = rw (isnt, out) refl in
          let same_beside : (k : ℕ) → has (tree_at rest u) k ≡ false → Stays old new m n k = λ k o. same k (subst (λ t. has t k ≡ false) (sym tree) o) in
          let in_cs : (k : ℕ) → has cs k ≡ true → Stays old new m n k = λ k i. same_beside k (false_from_ne_true (has (tree_at rest u) k) (λ j. both_ways (has rest k) (distinct.0 k i) (tree-in u k rest j))) in
          let own = same_beside h (false_from_ne_true (has (tree_at rest u) h) (λ i. both_ways (has rest h) distinct.2 (tree-in u h rest i))) in
          let lets_beside : LetsStand old new u (parent_by (is_at u) above rest) = subst (LetsStand old new u) (rw (isnt, out) refl) lets in (
            λ looked un. but-kept h cs own.known (λ k i. in_cs k (root-has k cs i)) (all.0 looked (sym own.mark ∙ un)),
            kept cs in_cs all.1,
            step above rest distinct.4 (rw (isnt, out) at there) same_beside lets_beside all.2 (subst (λ t. AllFit (map_forest new t)) tree anew),
          )
    ]
  ]
    where
      later : (k : ℕ) → has rest k ≡ true → has (Tree h cs Empty) k ≡ false
      later k i = false_from_ne_true (has (Tree h cs Empty) k) (λ j. elsewhere h cs rest distinct k j i)

      other_root : (k : ℕ) → is_root k cs ≡ true → is_root u cs ≡ false → eqb k u ≡ false
      other_root k i deep = false_from_ne_true (eqb k u) (λ e. both_ways (is_root u cs) deep (subst (λ m. is_root m cs ≡ true) (eqb-true k u e) i))

  -- so it is with the roots
  pub fill-step : (width height : ℕ) (f : Forest ℕ) → ((k : ℕ) → is_root k f ≡ true → eqb k u ≡ false → Stays old new m n k) → (is_root u f ≡ true → FillsPanel width height (new u)) → AllFillBut s m width height old f → AllFillBut s n width height new f
  fill-step width height Empty same top fill = tt
  fill-step width height (Tree h cs rest) same top fill = (
    λ looked un. elim (cases_Bool (eqb h u)) [
      | inl is ↦ subst (λ k. FillsPanel width height (new k)) (sym (eqb-true h u is)) (top (or_left (eqb h u) (is_root u rest) is))
      | inr other ↦ let own = same h (or_left (eqb h h) (is_root h rest) (eq-eqb h h refl)) other in subst (FillsPanel width height) (sym own.known) (fill.0 looked (sym own.mark ∙ un))
    ],
    fill-step width height rest (λ k i. same k (or_right (eqb h k) (is_root k rest) i)) (λ i. top (or_right (eqb h u) (is_root u rest) i)) fill.1,
  )

-- Roots that are looked at and of which none is marked fill the panel.
pub all-fill : (s m : ℕ → Bool) (width height : ℕ) (known : ℕ → Known) (f : Forest ℕ) → ((k : ℕ) → has f k ≡ true → m k ≡ false) → ((k : ℕ) → has f k ≡ true → s k ≡ true) → AllFillBut s m width height known f → AllFill width height (roots (map_forest known f))
all-fill s m width height known Empty none looked fill = tt
all-fill s m width height known (Tree h cs rest) none looked fill =
    let own : has (Tree h cs rest) h ≡ true = or_left (eqb h h) (has cs h || has rest h) (eq-eqb h h refl) in
    let beside : (k : ℕ) → has rest k ≡ true → has (Tree h cs rest) k ≡ true = λ k i. or_right (eqb h k) (has cs k || has rest k) (or_right (has cs k) (has rest k) i) in
    (fill.0 (looked h own) (none h own), all-fill s m width height known rest (λ k i. none k (beside k i)) (λ k i. looked k (beside k i)) fill.1)

-- The marked trees are right where all objects in them are looked at.
pub marked-but : (s m n : ℕ → Bool) (known : ℕ → Known) (f : Forest ℕ) → AllFitBut s n known f → AllFitBut s n known (marked_trees m f)
marked-but s m n known Empty all = tt
marked-but s m n known (Tree h cs rest) all = elim (cases_Bool (m h || has_by m cs)) [
  | inl is ↦ rw is (all.0, all.1, marked-but s m n known rest all.2)
  | inr isnt ↦ rw isnt (marked-but s m n known rest all.2)
]

pub marked-fill : (s m n : ℕ → Bool) (width height : ℕ) (known : ℕ → Known) (f : Forest ℕ) → AllFillBut s n width height known f → AllFillBut s n width height known (marked_trees m f)
marked-fill s m n width height known Empty fill = tt
marked-fill s m n width height known (Tree h cs rest) fill = elim (cases_Bool (m h || has_by m cs)) [
  | inl is ↦ rw is (fill.0, marked-fill s m n width height known rest fill.1)
  | inr isnt ↦ rw isnt (marked-fill s m n width height known rest fill.1)
]

-- they lie among all trees
pub marked-has : (m : ℕ → Bool) (k : ℕ) (f : Forest ℕ) → has (marked_trees m f) k ≡ true → has f k ≡ true
marked-has m k Empty is = is
marked-has m k (Tree h cs rest) is = elim (cases_Bool (m h || has_by m cs)) [
  | inl some ↦
      let top = or_cases (eqb h k) (has cs k || has (marked_trees m rest) k) (rw some at is) in
      elim top [
        | inl e ↦ or_left (eqb h k) (has cs k || has rest k) e
        | inr e ↦ or_right (eqb h k) (has cs k || has rest k) (elim (or_cases (has cs k) (has (marked_trees m rest) k) e) [
          | inl i ↦ or_left (has cs k) (has rest k) i
          | inr i ↦ or_right (has cs k) (has rest k) (marked-has m k rest i)
        ])
      ]
  | inr none ↦ or_right (eqb h k) (has cs k || has rest k) (or_right (has cs k) (has rest k) (marked-has m k rest (rw none at is)))
]

-- Marks of the second grade: those of steady objects are dropped, and the others become marks.
module _ (s m c n : ℕ → Bool) (known : ℕ → Known) (more : (k : ℕ) → m k ≡ true → n k ≡ true) (steady : (k : ℕ) → s k ≡ true → c k ≡ true → n k ≡ false → is_steady (known k).box ≡ true) where
  unmarked : (k : ℕ) → n k ≡ false → m k ≡ false
  unmarked k none = false_from_ne_true (m k) (λ is. both_ways (n k) none (more k is))

  no-root : (cs : Forest ℕ) → is_any_root n cs ≡ false → is_any_root m cs ≡ false
  no-root Empty none = refl
  no-root (Tree h cs rest) none =
      let parts : (n h ≡ false) × (is_any_root n rest ≡ false) = or_parts (n h) (is_any_root n rest) none in
      rw (unmarked h parts.0) (no-root rest parts.1)

  stand-more : (p : Known) (cs : Forest ℕ) → StandUnmarked m known p cs → StandUnmarked n known p cs
  stand-more p Empty all = tt
  stand-more p (Tree h cs rest) all = (λ none. all.0 (unmarked h none), stand-more p rest all.1)

  graded-by : (b : Bool) (h : ℕ) (cs : Forest ℕ) → is_steady (known h).box ≡ b → s h ≡ true → n h ≡ false → LeftOf b m c known h cs → LeftBy b n known h cs
  graded-by true h cs is looked none left = (left.0, stand-more (known h) cs left.1)
  graded-by false h cs is looked none left = λ no_root.
      let off : c h ≡ false = false_from_ne_true (c h) (λ on. both_ways (is_steady (known h).box) is (steady h looked on none)) in
      left off (no-root cs no_root)

  pub all-graded : (f : Forest ℕ) → AllFitButBoth s m c known f → AllFitBut s n known f
  all-graded Empty all = tt
  all-graded (Tree h cs rest) all = (λ looked none. graded-by (is_steady (known h).box) h cs refl looked none (all.0 looked (unmarked h none)), all-graded cs all.1, all-graded rest all.2)

-- what is right whatever the second grade
pub left-graded : (b : Bool) (m c : ℕ → Bool) (known : ℕ → Known) (h : ℕ) (cs : Forest ℕ) → LeftBy b m known h cs → LeftOf b m c known h cs
left-graded true m c known h cs left = left
left-graded false m c known h cs left = λ off. left

pub all-both : (s m c : ℕ → Bool) (known : ℕ → Known) (f : Forest ℕ) → AllFitBut s m known f → AllFitButBoth s m c known f
all-both s m c known Empty all = tt
all-both s m c known (Tree h cs rest) all = (λ looked none. left-graded (is_steady (known h).box) m c known h cs (all.0 looked none), all-both s m c known cs all.1, all-both s m c known rest all.2)

-- where fewer are looked at, or more are marked
pub all-fewer : (s t m : ℕ → Bool) (known : ℕ → Known) (f : Forest ℕ) → ((k : ℕ) → t k ≡ true → s k ≡ true) → AllFitBut s m known f → AllFitBut t m known f
all-fewer s t m known Empty fewer all = tt
all-fewer s t m known (Tree h cs rest) fewer all = (λ looked none. all.0 (fewer h looked) none, all-fewer s t m known cs fewer all.1, all-fewer s t m known rest fewer all.2)

pub fill-fewer : (s t m n : ℕ → Bool) (width height : ℕ) (known : ℕ → Known) (f : Forest ℕ) → ((k : ℕ) → t k ≡ true → s k ≡ true) → ((k : ℕ) → n k ≡ false → m k ≡ false) → AllFillBut s m width height known f → AllFillBut t n width height known f
fill-fewer s t m n width height known Empty fewer more fill = tt
fill-fewer s t m n width height known (Tree h cs rest) fewer more fill = (λ looked none. fill.0 (fewer h looked) (more h none), fill-fewer s t m n width height known rest fewer more fill.1)
