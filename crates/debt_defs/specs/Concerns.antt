-- What a change concerns: the objects that may differ after it.
use Rattle.std.specs.Prelude.{◌≡◌, ℕ, Bool, false, ◌||◌, ◌==◌, if◌then◌else◌, Some, None, option_map}
use Rattle.std.specs.Prelude.{List, [], ◌∷◌, map}
use Rattle.std.specs.declared.option.Option.{Option}
use Rattle.std.specs.List.{list_any}
use Rattle.gui_base.specs.Forest.{children_by, roots}
use Rattle.gui_base.specs.Props.{inherits}
use Rattle.gui_base.specs.declared.words.Part.{Part}
use Rattle.gui_base.specs.declared.props.Prop.{Prop}
use Rattle.style_defs.specs.declared.Setting.{Setting}
use Rattle.style_defs.specs.declared.Use.{Use}
use Rattle.style_defs.specs.Cascade.{settings_of}
use Rattle.style_defs.specs.Book.{Book, uses_of}
use Rattle.text_defs.specs.Face.{Face}
use Rattle.text_defs.specs.Fonts.{face}
use Rattle.widget_defs.specs.declared.ImageLook.{ImageLook}
use Rattle.widget_defs.specs.Looks.{Look}
use Rattle.scene_defs.specs.declared.Row.{Row}
use Rattle.scene_defs.specs.declared.Change.{Change}
use Rattle.debt_defs.specs.declared.subject.Reach.{Reach}
use Rattle.debt_defs.specs.declared.subject.Reach.TheVariants.{OfProp, OfStyle}
use Rattle.debt_defs.specs.declared.subject.Subject.{Subject}
use Rattle.debt_defs.specs.declared.subject.Subject.TheVariants.{Own, Spread, Styled, Shared, Made, Comes}
use Rattle.debt_defs.specs.declared.subject.Subject.TheVariants.{Goes, Moves, Among, Loads, Nobody}
use Rattle.scene_defs.specs.Scene.{Object, Scene, handle_of, is_at, object_at, row_at, path_at, value}
use Rattle.scene_defs.specs.Looks.{font_at, image_look, look_of}
use Rattle.scene_defs.specs.Edits.{text_at}
use Rattle.scene_defs.specs.Change.{changed}
use Rattle.debt_defs.specs.Subject.{subject_of}
use Rattle.scene_defs.specs.Valid.{IsValid, IsChange}
use Rattle.debt_defs.specs.SceneLook.{is_among}

-- the handles of the children of h
abbrev pub children : Scene → ℕ → List ℕ
children scene h = map handle_of (roots (children_by (is_at h) scene.trees))

-- the first alone
abbrev pub nearest : List Object → List Object
nearest [] = []
nearest (object ∷ above) = object ∷ []

-- the objects that are asked for a value of the first: it alone, or all where the value is inherited
abbrev pub asked : Bool → List Object → List Object
asked inherited path = if inherited then path else nearest path

-- whether a value of k is asked of h
abbrev pub asks : Scene → Bool → ℕ → ℕ → Bool
asks scene inherited h k = list_any (is_at h) (asked inherited (path_at scene k))

-- whether k is h or lies below it
abbrev pub lies_in : Scene → ℕ → ℕ → Bool
lies_in scene h k = list_any (is_at h) (path_at scene k)

abbrev pub is_of_style : ℕ → Use → Bool
is_of_style number u = u.style == number

-- whether an object uses a style
abbrev pub uses_style : Book → ℕ → Object → Bool
uses_style book number object = list_any (is_of_style number) (uses_of book object.handle)

-- whether a value of k is asked of an object that uses a style
abbrev pub asks_user : Scene → Bool → ℕ → ℕ → Bool
asks_user scene inherited number k =
    list_any (uses_style scene.book number) (asked inherited (path_at scene k))

abbrev pub is_inherited : Setting → Bool
is_inherited setting = inherits setting.prop

-- whether a style sets a property that is inherited
abbrev pub sets_inherited : Book → ℕ → Bool
sets_inherited book number = list_any is_inherited (settings_of book.styles number)

-- whether the tree at h goes away from k or from above it
abbrev pub loses : Scene → ℕ → ℕ → Bool
loses scene h k = lies_in scene h k || is_among (children scene k) h

-- whether k is h or the parent of h
abbrev pub holds_place : Scene → ℕ → ℕ → Bool
holds_place scene h k = k == h || is_among (children scene k) h

-- whether what is set is inherited: a property, or one of those that a style sets
abbrev pub is_inherited_by : Scene → Reach → Bool
is_inherited_by scene (OfProp prop) = inherits prop
is_inherited_by scene (OfStyle s) = sets_inherited scene.book s

-- Whether a change of a scene that is about this concerns k. A setter concerns its object. A state, or what sets
-- a property that is inherited, concerns all below it too, and a shared style all its users. A tree that goes
-- away from its parent concerns both parents and all of the tree; among its siblings it concerns itself and the
-- parent.
abbrev pub touches : Scene → Subject → ℕ → Bool
touches scene (Own h) k = k == h.0
touches scene (Spread h) k = k == h.0 || lies_in scene h.0 k
touches scene (Styled h reach) k = asks scene (is_inherited_by scene reach) h.0 k
touches scene (Shared s prop) k = asks_user scene (inherits prop) s k
touches scene (Made n) k = k == n.0
touches scene (Comes n p) k = k == n.0 || k == p.0
touches scene (Goes h) k = loses scene h.0 k
touches scene (Moves h p) k = loses scene h.0 k || k == p.0
touches scene (Among h) k = holds_place scene h.0 k
touches scene (Loads h) k = k == h.0
touches scene Nobody k = false

abbrev pub concerns : Scene → Change → ℕ → Bool
concerns scene change k = touches scene (subject_of change) k

-- the font of the text of h
abbrev pub face_at : Scene → ℕ → Face
face_at scene h = face scene.fonts (font_at scene h)

abbrev pub image_of : Option Row → Option ℕ
image_of None = None
image_of (Some row) = row.image

-- the image that h shows, with its size
abbrev pub picture_at : Scene → ℕ → Option ImageLook
picture_at scene h = image_look scene.images (image_of (row_at scene h))

-- h is the same in both scenes: its row and its text, the font and the image that these are shown by, its
-- children, and all its values
pub record IsSame (before after : Scene) (h : ℕ) : Type 0 where
  pub row : row_at after h ≡ row_at before h
  pub text : text_at after h ≡ text_at before h
  pub face : face_at after h ≡ face_at before h
  pub picture : picture_at after h ≡ picture_at before h
  pub children : children after h ≡ children before h
  pub values : (part : Part) (prop : Prop) → value after h part prop ≡ value before h part prop

-- what a change does not concern is the same after it
abbrev pub OthersAreSame : Type 0
OthersAreSame =
    (scene : Scene) (change : Change) (k : ℕ) → IsValid scene → IsChange change →
    concerns scene change k ≡ false → IsSame scene (changed scene change) k

-- what the items of h are made of, if it is there
abbrev pub look_at : Scene → ℕ → Option Look
look_at scene h = option_map (look_of scene) (object_at scene h)

-- so its items are made of the same as before
abbrev pub OthersLookSame : Type 0
OthersLookSame =
    (scene : Scene) (change : Change) (k : ℕ) → IsValid scene → IsChange change →
    concerns scene change k ≡ false → look_at (changed scene change) k ≡ look_at scene k
