-- The boxes of a scene by handle.
use Rattle.std.proofs.Common.{◌≡◌, ◌∙◌, refl, sym, ap, subst, ℕ, true, false, eqb, eq-eqb, inl, inr}
use Rattle.std.specs.Prelude.{Option, Some, None, is_some, option_map}
use Rattle.std.proofs.lemmas.Bool.{cases_Bool, or_left, or_right, both_ways, false_from_ne_true, false≢true, eqb-true}
use Rattle.gui_base.specs.Forest.{Forest, Empty, Tree, map_forest, has_by, StandsOnce}
use Rattle.gui_base.proofs.Forests.{map-has_by}
use Rattle.gui_base.proofs.Visits.{IsDistinct, distinct_once}
use Rattle.scene_defs.specs.declared.Row.{Row}
use Rattle.scene_defs.specs.Edits.{text_at, text_of}
use Rattle.scene_defs.specs.Place.{box_of as object_box}
use Rattle.scene_defs.specs.Scene.{Object, Scene, handle_of, row_of, is_at, handles_of, is_there, object_by, object_at, row_at}
use Rattle.widget_defs.specs.declared.kinds.Shown.{Shown}
use Rattle.widget_defs.specs.declared.kinds.Shown.TheVariants as shown
use Rattle.widget_defs.specs.Kinds.{shows, has_size}
use Rattle.widget_defs.specs.Looks.{Look}
use Rattle.widget_defs.specs.Sizes.{shown_width, shown_height, own_width, own_height}
use Rattle.scene_defs.specs.Looks.{look_of}
use Rattle.layout_defs.specs.Boxes.{Box}
use Rattle.gui_layout.specs.Own.{has_own_size}
use Rattle.gui_layout.specs.Scenes.{object_with, box_or_none, scene_box}

-- an object that is found by its handle
pub named : (f : Forest Object) (h : ℕ) (o : Object) → object_by (is_at h) f ≡ Some o → o.handle ≡ h
named Empty h o e = cc
named (Tree a cs rest) h o e =
    elim (cases_Bool (is_at h a)) [
      | inl is ↦
          let found : Some a ≡ Some o = rw is at e in
          let same : a ≡ o = cc in
          sym (ap handle_of same) ∙ eqb-true a.handle h is
      | inr isnt ↦ elim (cases_Bool (has_by (is_at h) cs)) [
        | inl inner ↦ named cs h o (rw (isnt, inner) at e)
        | inr outer ↦ named rest h o (rw (isnt, outer) at e)
      ]
    ]

pub found_there : (f : Forest Object) (h : ℕ) (o : Object) → object_by (is_at h) f ≡ Some o → has_by (is_at h) f ≡ true
found_there Empty h o e = cc
found_there (Tree a cs rest) h o e =
    elim (cases_Bool (is_at h a)) [
      | inl is ↦ or_left _ _ is
      | inr isnt ↦ elim (cases_Bool (has_by (is_at h) cs)) [
        | inl inner ↦ or_right _ _ (or_left _ _ inner)
        | inr outer ↦ or_right _ _ (or_right _ _ (found_there rest h o (rw (isnt, outer) at e)))
      ]
    ]

object_told : (scene : Scene) (h : ℕ) (o : Option Object) (row : Row) → object_at scene h ≡ o → Some row ≡ option_map row_of o → object_at scene h ≡ Some (object_with scene h row)
object_told scene h None row is e = cc
object_told scene h (Some object) row is e =
    let handle = named scene.trees h object is in
    let same : row ≡ object.row = cc in
    let text : text_at scene h ≡ object.text = ap text_of is in
    is ∙ (λ i. Some (record { handle = handle i; row = sym same i; text = sym text i }))

-- what the row of a handle tells
pub object_found : (scene : Scene) (h : ℕ) (row : Row) → Some row ≡ row_at scene h → object_at scene h ≡ Some (object_with scene h row)
object_found scene h row e = object_told scene h (object_at scene h) row refl e

pub row_found : (scene : Scene) (h : ℕ) (row : Row) → Some row ≡ row_at scene h → (is_there scene h ≡ true) × (object_box scene (object_with scene h row) ≡ scene_box scene h)
row_found scene h row e =
    let is = object_found scene h row e in (
      map-has_by handle_of (λ k. eqb k h) scene.trees ∙ found_there scene.trees h (object_with scene h row) is,
      sym (ap (box_or_none scene h) is),
    )

none_told : (scene : Scene) (h : ℕ) (o : Option Object) → None ≡ option_map row_of o → box_or_none scene h None ≡ box_or_none scene h o
none_told scene h None e = refl
none_told scene h (Some object) e = cc

pub none_found : (scene : Scene) (h : ℕ) → None ≡ row_at scene h → box_or_none scene h None ≡ scene_box scene h
none_found scene h e = none_told scene h (object_at scene h) e

-- the box of a handle has that handle
named_told : (scene : Scene) (h : ℕ) (o : Option Object) → object_at scene h ≡ o → record (box_or_none scene h o) { handle = h } ≡ box_or_none scene h o
named_told scene h None is = refl
named_told scene h (Some object) is = ap (λ k. record (object_box scene object) { handle = k }) (sym (named scene.trees h object is))

pub scene_named : (scene : Scene) (h : ℕ) → record (scene_box scene h) { handle = h } ≡ scene_box scene h
scene_named scene h = named_told scene h (object_at scene h) refl

pub object_some : (f : Forest Object) (h : ℕ) → has_by (is_at h) f ≡ true → is_some (object_by (is_at h) f) ≡ true
object_some Empty h i = absurd (false≢true i)
object_some (Tree a cs rest) h i =
    elim (cases_Bool (is_at h a)) [
      | inl is ↦ rw is refl
      | inr isnt ↦ elim (cases_Bool (has_by (is_at h) cs)) [
        | inl inner ↦ rw (isnt, inner) (object_some cs h inner)
        | inr outer ↦ let later : has_by (is_at h) rest ≡ true = rw (isnt, outer) at i in rw (isnt, outer) (object_some rest h later)
      ]
    ]

-- who has no row is not there
pub row_gone : (scene : Scene) (h : ℕ) → None ≡ row_at scene h → is_there scene h ≡ false
row_gone scene h e = by (object_at scene h) refl e where
  by : (o : Option Object) → object_at scene h ≡ o → None ≡ option_map row_of o → is_there scene h ≡ false
  by None is f = map-has_by handle_of (λ k. eqb k h) scene.trees ∙ false_from_ne_true _ (λ on. both_ways (is_some (object_at scene h)) (ap is_some is) (object_some scene.trees h on))
  by (Some object) is f = cc

-- What has no own size is 0 wide and high, whatever it shows.
pub no_width-by : (what : Shown) (look : Look) → has_size what ≡ false → 0 ≡ shown_width what look
no_width-by shown.Text look none = cc
no_width-by shown.Picture look none = cc
no_width-by shown.BoxAndText look none = cc
no_width-by what look none = refl

pub no_height-by : (what : Shown) (look : Look) (room : ℕ) → has_size what ≡ false → 0 ≡ shown_height what look room
no_height-by shown.Text look room none = cc
no_height-by shown.Picture look room none = cc
no_height-by shown.BoxAndText look room none = cc
no_height-by what look room none = refl

pub no_height : (scene : Scene) (h : ℕ) (row : Row) (room : ℕ) → Some row ≡ row_at scene h → has_own_size row.kind ≡ false → 0 ≡ (scene_box scene h).own_height room
no_height scene h row room e none =
    no_height-by (shows row.kind) (look_of scene (object_with scene h row)) room none ∙ ap (λ (b : Box). b.own_height room) (row_found scene h row e).1

-- and what has one is as large as its look says
pub look-width : (scene : Scene) (h : ℕ) (look : Look) → Some look ≡ option_map (look_of scene) (object_at scene h) → own_width look ≡ (scene_box scene h).own_width
look-width scene h look e = by (object_at scene h) e where
  by : (o : Option Object) → Some look ≡ option_map (look_of scene) o → own_width look ≡ (box_or_none scene h o).own_width
  by None f = cc
  by (Some object) f = let same : look ≡ look_of scene object = cc in ap own_width same

pub look-height : (scene : Scene) (h room : ℕ) (look : Look) → Some look ≡ option_map (look_of scene) (object_at scene h) → own_height look room ≡ (scene_box scene h).own_height room
look-height scene h room look e = by (object_at scene h) e where
  by : (o : Option Object) → Some look ≡ option_map (look_of scene) o → own_height look room ≡ (box_or_none scene h o).own_height room
  by None f = cc
  by (Some object) f = let same : look ≡ look_of scene object = cc in ap (λ (l : Look). own_height l room) same

-- The boxes of all trees.
agrees : {B : Type 0} (g : Object → B) (k : ℕ → B) (from : Option Object → B) → ((o : Object) → from (Some o) ≡ g o) → (f : Forest Object) → IsDistinct handle_of f →
    ((h : ℕ) → has_by (is_at h) f ≡ true → k h ≡ from (object_by (is_at h) f)) → map_forest g f ≡ map_forest k (handles_of f)
agrees g k from some Empty distinct same = refl
agrees {B} g k from some (Tree a cs rest) distinct same =
    let self : is_at a.handle a ≡ true = eq-eqb a.handle a.handle refl in
    let here : k a.handle ≡ g a = same a.handle (or_left _ _ self) ∙ ((rw self refl) ∙ some a) in
    let below = agrees g k from some cs distinct.3 (λ h i. same h (or_right _ _ (or_left _ _ i)) ∙ inner h i) in
    let beside = agrees g k from some rest distinct.4 (λ h i. same h (or_right _ _ (or_right _ _ i)) ∙ outer h i) in
    rw (here, below, beside) refl
  where
    other : (h : ℕ) (t : Forest Object) → has_by (λ (o : Object). eqb o.handle a.handle) t ≡ false → has_by (is_at h) t ≡ true → is_at h a ≡ false
    other h t out i = false_from_ne_true _ (λ e. both_ways _ (subst (λ m. has_by (λ (o : Object). eqb o.handle m) t ≡ false) (eqb-true a.handle h e) out) i)

    inner : (h : ℕ) → has_by (is_at h) cs ≡ true → from (object_by (is_at h) (Tree a cs rest)) ≡ from (object_by (is_at h) cs)
    inner h i = rw (other h cs distinct.1 i, i) refl

    outer : (h : ℕ) → has_by (is_at h) rest ≡ true → from (object_by (is_at h) (Tree a cs rest)) ≡ from (object_by (is_at h) rest)
    outer h i = rw (other h rest distinct.2 i, false_from_ne_true _ (λ j. both_ways _ (distinct.0 h j) i)) refl

either : (scene : Scene) (h : ℕ) (o : Option Object) → is_some o ≡ true → box_or_none scene h o ≡ box_or_none scene 0 o
either scene h None some = absurd (false≢true some)
either scene h (Some object) some = refl

pub boxes_are : (scene : Scene) → StandsOnce (handles_of scene.trees) → map_forest (object_box scene) scene.trees ≡ map_forest (scene_box scene) (handles_of scene.trees)
boxes_are scene once =
    agrees (object_box scene) (scene_box scene) (box_or_none scene 0) (λ o. refl) scene.trees (distinct_once handle_of scene.trees once) (λ h i. either scene h (object_by (is_at h) scene.trees) (object_some scene.trees h i))
