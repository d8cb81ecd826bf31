-- What is the same where one object is set, or where a path is.
use Rattle.std.proofs.Common.{◌≡◌, ◌∙◌, sym, ap, ℕ, Bool, true, false, cond, eqb, Option, Some, None, List, [], ◌∷◌, map, refl, arith, inl, inr}
use Rattle.std.specs.Prelude.{if◌then◌else◌}
use Rattle.std.specs.List.{list_any}
use Rattle.std.proofs.lemmas.Bool.{cases_Bool, both_ways, false≢true}
use Rattle.std.proofs.lemmas.Bool.Decides.{nat_tests}
use Rattle.gui_base.specs.declared.words.Part.{Part}
use Rattle.gui_base.specs.declared.props.Prop.{Prop}
use Rattle.gui_base.specs.Forest.{Forest, Empty, Tree, roots, children_by, path_by, with_row_by}
use Rattle.gui_base.specs.Props.{inherits}
use Rattle.gui_base.proofs.Forests.{map-children_by, map-with_row_by}
use Rattle.style_defs.specs.Value.{value_on}
use Rattle.scene_defs.specs.Scene.{Object, Scene, handle_of, handles_of, is_at, object_by, object_at, styled_of, path_at, value}
use Rattle.scene_defs.proofs.Distinct.{there}
use Rattle.debt_defs.specs.Concerns.{children, asked, lies_in}
use Rattle.debt_defs.proofs.Wins.{WinSame, asked-none, value-same}

-- h is the same object in both scenes, with the same children and values
pub record IsAlike (before after : Scene) (h : ℕ) : Type 0 where
  pub object : object_at after h ≡ object_at before h
  pub children : children after h ≡ children before h
  pub values : (part : Part) (prop : Prop) → value after h part prop ≡ value before h part prop

-- An object stands first on its path.
abbrev head : List Object → Option Object
head [] = None
head (object ∷ above) = Some object

object-path : (k : ℕ) (above : List Object) (f : Forest Object) → there f k ≡ true → object_by (is_at k) f ≡ head (path_by (is_at k) above f)
object-path k above Empty i = absurd (false≢true i)
object-path k above (Tree object cs rest) i = grind (arith, nat_tests, object-path k (object ∷ above) cs, object-path k above rest)

object-none : (k : ℕ) (f : Forest Object) → there f k ≡ false → object_by (is_at k) f ≡ None
object-none k Empty off = refl
object-none k (Tree object cs rest) off = grind (arith, nat_tests, object-none k cs, object-none k rest)

path-off : (k : ℕ) (above : List Object) (f : Forest Object) → there f k ≡ false → path_by (is_at k) above f ≡ []
path-off k above Empty off = refl
path-off k above (Tree object cs rest) off = grind (arith, nat_tests, path-off k above rest)

object-head : (k : ℕ) (f : Forest Object) → object_by (is_at k) f ≡ head (path_by (is_at k) [] f)
object-head k f = elim (cases_Bool (there f k)) [
  | inl i ↦ object-path k [] f i
  | inr off ↦ object-none k f off ∙ sym (ap head (path-off k [] f off))
]

-- h is the same where its path, its children and the book are
pub same-object : (before after : Scene) (k : ℕ) → path_at after k ≡ path_at before k → object_at after k ≡ object_at before k
same-object before after k same = object-head k after.trees ∙ ap head same ∙ sym (object-head k before.trees)

pub same-edit : (scene : Scene) (trees : Forest Object) (k : ℕ) → path_by (is_at k) [] trees ≡ path_at scene k → roots (children_by (is_at k) trees) ≡ roots (children_by (is_at k) scene.trees) →
    IsAlike scene (record scene { trees = trees }) k
same-edit scene trees k path kids = record {
  object = same-object scene (record scene { trees = trees }) k path;
  children = ap (map handle_of) kids;
  values = λ part prop. ap (λ p. value_on scene.book.styles (map (styled_of scene.book) p) part prop) path;
}

-- Setters.
module _ (h : ℕ) (f : Object → Object) (stays : (object : Object) → (f object).handle ≡ object.handle) where
  abbrev set_one : Object → Object
  set_one object = cond (is_at h object) (f object) object

  abbrev set : Forest Object → Forest Object
  set = with_row_by (is_at h) f

  same-handle : (object : Object) → (set_one object).handle ≡ object.handle
  same-handle object = elim (cases_Bool (is_at h object)) [ inl is ↦ rw is (stays object) | inr isnt ↦ rw isnt refl ]

  has-set : (k : ℕ) (g : Forest Object) → there (set g) k ≡ there g k
  has-set k Empty = refl
  has-set k (Tree object cs rest) = rw (same-handle object, has-set k cs, has-set k rest) refl

  path-set : (k : ℕ) (above : List Object) (g : Forest Object) → path_by (is_at k) (map set_one above) (set g) ≡ map set_one (path_by (is_at k) above g)
  path-set k above Empty = refl
  path-set k above (Tree object cs rest) = elim (cases_Bool (is_at k object)) [
    | inl is ↦ rw (same-handle object, is) refl
    | inr isnt ↦ elim (cases_Bool (there cs k)) [
      | inl i ↦ rw (same-handle object, isnt, has-set k cs, i) (path-set k (object ∷ above) cs)
      | inr off ↦ rw (same-handle object, isnt, has-set k cs, off) (path-set k above rest)
    ]
  ]

  object-set : (k : ℕ) (g : Forest Object) → eqb k h ≡ false → object_by (is_at k) (set g) ≡ object_by (is_at k) g
  object-set k Empty other = refl
  object-set k (Tree object cs rest) other = elim (cases_Bool (is_at k object)) [
    | inl is ↦
        let isnt : is_at h object ≡ false = grind (arith, nat_tests) in
        rw isnt (rw is refl)
    | inr isnt ↦ elim (cases_Bool (there cs k)) [
      | inl i ↦ rw (same-handle object, isnt, has-set k cs, i) (object-set k cs other)
      | inr off ↦ rw (same-handle object, isnt, has-set k cs, off) (object-set k rest other)
    ]
  ]

map-roots : (g : Forest Object) → map handle_of (roots g) ≡ roots (handles_of g)
map-roots Empty = refl
map-roots (Tree object cs rest) = ap (λ hs. object.handle ∷ hs) (map-roots rest)

-- the children are told by the handles of the trees
children-by : (k : ℕ) (g : Forest Object) → map handle_of (roots (children_by (is_at k) g)) ≡ roots (children_by (λ j. eqb j k) (handles_of g))
children-by k g = map-roots (children_by (is_at k) g) ∙ ap roots (map-children_by handle_of (λ j. eqb j k) g)

children-set : (h k : ℕ) (f : Object → Object) → ((object : Object) → (f object).handle ≡ object.handle) → (g : Forest Object) →
    map handle_of (roots (children_by (is_at k) (with_row_by (is_at h) f g))) ≡ map handle_of (roots (children_by (is_at k) g))
children-set h k f stays g =
    children-by k (with_row_by (is_at h) f g)
    ∙ ap (λ t. roots (children_by (λ j. eqb j k) t)) (map-with_row_by handle_of (λ j. true) (is_at h) f stays g)
    ∙ sym (children-by k g)

map-map : {A B C : Type 0} (g : B → C) (f : A → B) (as' : List A) → map g (map f as') ≡ map (λ a. g (f a)) as'
map-map g f [] = refl
map-map g f (a ∷ as') = ap (λ l. g (f a) ∷ l) (map-map g f as')

pub all-off : (path : List Object) → list_any (λ object. false) path ≡ false
all-off [] = refl
all-off (object ∷ above) = all-off above

module _ (scene : Scene) (h k : ℕ) (f : Object → Object) (stays : (object : Object) → (f object).handle ≡ object.handle)
    (other : eqb k h ≡ false) (kind : (object : Object) → (f object).row.kind ≡ object.row.kind) where
  abbrev changed_states : Bool → Object → Bool
  changed_states keeps object = if keeps then false else is_at h object

  win-set : (keeps : Bool) → (keeps ≡ true → (object : Object) → (f object).row.states ≡ object.row.states) → (prop : Prop) (object : Object) → changed_states keeps object ≡ false →
      WinSame scene.book.styles scene.book.styles (styled_of scene.book (set_one h f stays object)) (styled_of scene.book object) prop
  win-set keeps states prop object off = elim (cases_Bool (is_at h object)) [
    | inl is ↦ by keeps refl is
    | inr isnt ↦ rw isnt (record { kind = refl; states = refl; wins = λ part. refl })
  ]
    where
      by : (b : Bool) → keeps ≡ b → is_at h object ≡ true →
          WinSame scene.book.styles scene.book.styles (styled_of scene.book (set_one h f stays object)) (styled_of scene.book object) prop
      by true e is = rw is (record { kind = kind object; states = states e object; wins = λ part. rw (stays object, states e object) refl })
      by false e is = absurd (both_ways _ (ap (λ c. changed_states c object) (sym e) ∙ off) is)

  pub set-same : (keeps : Bool) → (keeps ≡ true → (object : Object) → (f object).row.states ≡ object.row.states) → (keeps ≡ false → lies_in scene h k ≡ false) →
      IsAlike scene (record scene { trees = with_row_by (is_at h) f scene.trees }) k
  set-same keeps states apart = record {
    object = object-set h f stays k scene.trees other;
    children = children-set h k f stays scene.trees;
    values = λ part prop.
        ap (λ p. value_on scene.book.styles (map (styled_of scene.book) p) part prop) (path-set h f stays k [] scene.trees)
        ∙ ap (λ os. value_on scene.book.styles os part prop) (map-map (styled_of scene.book) (set_one h f stays) (path_at scene k))
        ∙ value-same scene.book.styles scene.book.styles (λ object. styled_of scene.book (set_one h f stays object)) (styled_of scene.book) prop (changed_states keeps)
        (win-set keeps states prop) (path_at scene k) part (unasked keeps refl (inherits prop));
  }
    where
      unasked : (b : Bool) → keeps ≡ b → (i : Bool) → list_any (changed_states b) (asked i (path_at scene k)) ≡ false
      unasked true e i = all-off (asked i (path_at scene k))
      unasked false e i = asked-none (is_at h) true i (path_at scene k) (λ c. refl) (apart e)
