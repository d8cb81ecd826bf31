-- What lies below an object is seen only inside it, and all is seen inside the panel.
use Rattle.std.proofs.Common.{◌≡◌, ◌∙◌, sym, ℕ, Bool, true, false, eqb, ◌||◌, Option, Some, None, List, refl, arith, inl, inr, ℤ}
use Rattle.std.proofs.lemmas.Bool.{cases_Bool, or_parts, both_ways, false≢true, false_from_ne_true, and_from, and_parts}
use Rattle.std.proofs.lemmas.Bool.Decides.{nat_tests}
use Rattle.std.proofs.lemmas.Int.{ints}
use Rattle.std.proofs.lemmas.List.Folds.{list_any-append}
use Rattle.gui_base.specs.declared.words.Flag.TheVariants.{Hidden}
use Rattle.std.specs.Int.{int_max, int_min}
use Rattle.std.specs.Int.Signed.{le_z}
use Rattle.gui_base.specs.Area.{Rect, is_empty, common, has_corners, is_within}
use Rattle.gui_base.specs.Forest.{Forest, Empty, Tree, tree_by, preorder}
use Rattle.gui_base.proofs.Areas.{has-common}
use Rattle.scene_defs.specs.Row.{is_on}
use Rattle.scene_defs.specs.Scene.{Object, Scene, is_at, handles_of}
use Rattle.scene_defs.specs.Place.{panel_of, place}
use Rattle.scene_defs.specs.Visible.{met, holds, seen_of, visible_in, visible, shown_trees}
use Rattle.scene_defs.proofs.Distinct.{there, IsDistinct, distinct-three}
use Rattle.debt_defs.specs.SceneLook.{is_among, IsSceneLook}
use Rattle.debt_defs.specs.Scenes.{look_of}
use Rattle.debt_defs.specs.Orders.{SeenInsideAbove}

-- the handles of trees, as they are painted
abbrev pub handles_in : Forest Object → List ℕ
handles_in f = preorder (handles_of f)

pub among-handles : (f : Forest Object) (k : ℕ) → is_among (handles_in f) k ≡ there f k
among-handles Empty k = refl
among-handles (Tree object cs rest) k =
    rw (list_any-append (λ j. eqb j k) (handles_in cs) (handles_in rest), among-handles cs k, among-handles rest k) refl

pub there-tree : (f : Forest Object) (h k : ℕ) → there (tree_by (is_at h) f) k ≡ true → (there f h ≡ true) × (there f k ≡ true)
there-tree Empty h k i = absurd (false≢true i)
there-tree (Tree object cs rest) h k i = grind (arith, nat_tests, there-tree cs h k, there-tree rest h k)

-- Pixels.
met-holds : (clip place : Option Rect) (x y : ℤ) → holds (met clip place) x y ≡ true → holds clip x y ≡ true
met-holds None place x y i = i
met-holds (Some clip) None x y i = absurd (false≢true i)
met-holds (Some clip) (Some place) x y i = elim (cases_Bool (is_empty (common clip place))) [
  | inl none ↦ absurd (false≢true (rw none at i))
  | inr some ↦ (and_parts _ _ (sym (has-common clip place x y) ∙ (rw some at i))).0
]

module _ (place : ℕ → Option Rect) where
  seen-holds : (clip : Option Rect) (object : Object) (x y : ℤ) → holds (seen_of place clip object) x y ≡ true → holds clip x y ≡ true
  seen-holds clip object x y i = elim (cases_Bool (is_on object.row.flags Hidden)) [
    | inl hidden ↦ absurd (false≢true (rw hidden at i))
    | inr plain ↦ met-holds clip (place object.handle) x y (rw plain at i)
  ]

  -- nothing is seen where the clip does not reach
  clip-holds : (clip : Option Rect) (f : Forest Object) (k : ℕ) (x y : ℤ) → holds (visible_in place clip f k) x y ≡ true → holds clip x y ≡ true
  clip-holds clip Empty k x y i = absurd (false≢true i)
  clip-holds clip (Tree object cs rest) k x y i = elim (cases_Bool (is_at k object)) [
    | inl is ↦ seen-holds clip object x y (rw is at i)
    | inr isnt ↦ elim (cases_Bool (there cs k)) [
      | inl below ↦ seen-holds clip object x y (clip-holds (seen_of place clip object) cs k x y (rw (isnt, below) at i))
      | inr beside ↦ clip-holds clip rest k x y (rw (isnt, beside) at i)
    ]
  ]

  pub visible-none : (clip : Option Rect) (f : Forest Object) (k : ℕ) → there f k ≡ false → visible_in place clip f k ≡ None
  visible-none clip Empty k out = refl
  visible-none clip (Tree object cs rest) k out =
      let a : (is_at k object ≡ false) × ((there cs k || there rest k) ≡ false) = or_parts _ _ out in
      let b : (there cs k ≡ false) × (there rest k ≡ false) = or_parts _ _ a.1 in
      rw (a.0, b.0) (visible-none clip rest k b.1)

  apart : (object : Object) (f : Forest Object) (k : ℕ) → there f object.handle ≡ false → there f k ≡ true → is_at k object ≡ false
  apart object f k out i = grind (arith, nat_tests)

  -- what lies below h is seen inside it
  below-holds : (clip : Option Rect) (f : Forest Object) (h k : ℕ) (x y : ℤ) → IsDistinct f → there (tree_by (is_at h) f) k ≡ true →
      holds (visible_in place clip f k) x y ≡ true → holds (visible_in place clip f h) x y ≡ true
  below-holds clip Empty h k x y d part i = i
  below-holds clip (Tree object cs rest) h k x y d part i = elim (cases_Bool (is_at h object)) [
    | inl top ↦ rw top (elim (cases_Bool (is_at k object)) [
      | inl is ↦ rw is at i
      | inr isnt ↦
          let inner : there cs k ≡ true = let p = rw top at part in grind (arith, nat_tests) in
          clip-holds (seen_of place clip object) cs k x y (rw (isnt, inner) at i)
    ])
    | inr lower ↦ elim (cases_Bool (there cs h)) [
      | inl below ↦
          let p : there (tree_by (is_at h) cs) k ≡ true = rw (lower, below) at part in
          let inner = (there-tree cs h k p).1 in
          let isnt = apart object cs k d.1 inner in
          rw (lower, below) (below-holds (seen_of place clip object) cs h k x y d.3 p (rw (isnt, inner) at i))
      | inr beside ↦
          let p : there (tree_by (is_at h) rest) k ≡ true = rw (lower, beside) at part in
          let later = (there-tree rest h k p).1 in
          let isnt = apart object rest k d.2 later in
          let out = false_from_ne_true (there cs k) (λ e. both_ways _ (d.0 k e) later) in
          rw (lower, beside) (below-holds clip rest h k x y d.4 p (rw (isnt, out) at i))
    ]
  ]

pub seen_inside_above : SeenInsideAbove
seen_inside_above scene h k showable part x y i =
    let d = distinct-three scene.trees scene.active showable.once showable.above_top showable.above_system in
    below-holds (place scene) (Some (panel_of scene)) (shown_trees scene) h k x y d part i

pub scene_is_look : (scene : Scene) → IsSceneLook (look_of scene)
scene_is_look scene h out =
    visible-none (place scene) (Some (panel_of scene)) (shown_trees scene) h (sym (among-handles (shown_trees scene) h) ∙ out)

-- Corners. Whether an area, if there is one, lies in another and has a pixel.
abbrev pub fits : Rect → Option Rect → Bool
fits area None = true
fits area (Some part) = is_within area part

below-max : (a b c : ℤ) → le_z a b ≡ true → le_z a (int_max b c) ≡ true
below-max a b c low = grind (arith, ints, nat_tests)

above-min : (a b c : ℤ) → le_z b a ≡ true → le_z (int_min b c) a ≡ true
above-min a b c high = grind (arith, ints, nat_tests)

corners-common : (area clip other : Rect) → has_corners area clip ≡ true → has_corners area (common clip other) ≡ true
corners-common area clip other inside =
    let p = and_parts _ _ inside in
    let q = and_parts _ _ p.0 in
    let r = and_parts _ _ p.1 in
    and_from _ _ (and_from _ _ (below-max area.x1 clip.x1 other.x1 q.0) (above-min area.x2 clip.x2 other.x2 q.1))
    (and_from _ _ (below-max area.y1 clip.y1 other.y1 r.0) (above-min area.y2 clip.y2 other.y2 r.1))

-- whether an area, if there is one, has its corners in another
abbrev lies : Rect → Option Rect → Bool
lies area None = true
lies area (Some part) = has_corners area part

fits-lies : (area : Rect) (part : Option Rect) → fits area part ≡ true → lies area part ≡ true
fits-lies area None fit = refl
fits-lies area (Some part) fit = (and_parts _ _ fit).1

met-fits : (area : Rect) (clip place : Option Rect) → lies area clip ≡ true → fits area (met clip place) ≡ true
met-fits area None place inside = refl
met-fits area (Some clip) None inside = refl
met-fits area (Some clip) (Some place) inside = elim (cases_Bool (is_empty (common clip place))) [
  | inl none ↦ rw none refl
  | inr some ↦ rw (some, some) (corners-common area clip place inside)
]

module _ (area : Rect) (place : ℕ → Option Rect) where
  seen-fits : (clip : Option Rect) (object : Object) → lies area clip ≡ true → fits area (seen_of place clip object) ≡ true
  seen-fits clip object inside = elim (cases_Bool (is_on object.row.flags Hidden)) [
    | inl hidden ↦ rw hidden refl
    | inr plain ↦ rw plain (met-fits area clip (place object.handle) inside)
  ]

  visible-fits : (clip : Option Rect) (f : Forest Object) (k : ℕ) → lies area clip ≡ true → fits area (visible_in place clip f k) ≡ true
  visible-fits clip Empty k inside = refl
  visible-fits clip (Tree object cs rest) k inside =
      let seen = seen-fits clip object inside in
      elim (cases_Bool (is_at k object)) [
        | inl is ↦ rw is seen
        | inr isnt ↦ elim (cases_Bool (there cs k)) [
          | inl below ↦ rw (isnt, below) (visible-fits (seen_of place clip object) cs k (fits-lies area _ seen))
          | inr beside ↦ rw (isnt, beside) (visible-fits clip rest k inside)
        ]
      ]

le-self : (a : ℤ) → le_z a a ≡ true
le-self a = grind (arith, ints, nat_tests)

corners-self : (area : Rect) → has_corners area area ≡ true
corners-self area = rw (le-self area.x1, le-self area.x2, le-self area.y1, le-self area.y2) refl

pub visible_fits : (scene : Scene) (k : ℕ) → fits (panel_of scene) (visible scene k) ≡ true
visible_fits scene k =
    visible-fits (panel_of scene) (place scene) (Some (panel_of scene)) (shown_trees scene) k (corners-self (panel_of scene))
