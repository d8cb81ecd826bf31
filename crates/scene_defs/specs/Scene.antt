-- A scene is trees of objects, the screen that is active, styles, fonts, images, and the limits.
use Rattle.std.specs.Prelude.{ℕ, ◌+◌, ◌-◌, Bool, ◌==◌, if◌then◌else◌, Some, None, option_map}
use Rattle.std.specs.Prelude.{ℤ, List, [], map, length, sum_by}
use Rattle.std.specs.declared.option.Option.{Option}
use Rattle.gui_base.specs.Forest.{Forest, Empty, Tree, map_forest, size, has, has_by, path_by}
use Rattle.gui_base.specs.Limits.{Bounds, slots}
use Rattle.gui_base.specs.declared.props.Prop.{Prop}
use Rattle.gui_base.specs.declared.words.Part.{Part}
use Rattle.gui_base.specs.declared.words.Kind.{Kind}
use Rattle.gui_base.specs.declared.words.Kind.TheVariants.{Screen, Layer}
use Rattle.gui_base.specs.declared.limits.Pool.{Pool}
use Rattle.gui_base.specs.declared.limits.Pool.TheVariants.{Objects, Styles, Entries, Uses, Texts}
use Rattle.gui_base.specs.declared.limits.Pool.TheVariants.{Fonts, Glyphs, Ink, Images, Pixels}
use Rattle.style_defs.specs.Book.{Book, empty_book, entries_in, uses_in, locals_of, uses_of}
use Rattle.style_defs.specs.Value.{Styled, value_on}
use Rattle.text_defs.specs.Fonts.{Font, Glyph}
use Rattle.text_defs.specs.Images.{Image, image_bytes}
use Rattle.gui_pool.specs.Texts.{need_of as chunks_of}
use Rattle.scene_defs.specs.declared.Row.{Row}
use Rattle.scene_defs.specs.Row.{new_row}

-- an object: its handle, what it is and what is wanted of it, and the bytes of its text
pub record Object : Type 0 where
  pub handle : ℕ
  pub row : Row
  pub text : List ℕ

-- what the library draws: the trees of the layers and the screens, and all that these are shown with
pub record Scene : Type 0 where
  pub trees : Forest Object
  pub active : ℕ
  -- the shared styles, what each object sets locally, and the styles that it uses
  pub book : Book
  -- the fonts beside the built-in one, and the images, each in the order in which they were begun
  pub fonts : List Font
  pub images : List Image
  pub limits : Bounds

-- the handle of an object
abbrev pub handle_of : Object → ℕ
handle_of object = object.handle

-- the row of an object
abbrev pub row_of : Object → Row
row_of object = object.row

-- whether an object is h
abbrev pub is_at : ℕ → Object → Bool
is_at h object = object.handle == h

-- the handles of the objects
abbrev pub handles_of : Forest Object → Forest ℕ
handles_of trees = map_forest handle_of trees

-- whether h is there
abbrev pub is_there : Scene → ℕ → Bool
is_there scene h = has (handles_of scene.trees) h

-- the first object that passes the test
abbrev pub object_by : (Object → Bool) → Forest Object → Option Object
object_by test Empty = None
object_by test (Tree object cs rest) =
    if test object then Some object else (if has_by test cs then object_by test cs else object_by test rest)

-- the object h, if it is there
abbrev pub object_at : Scene → ℕ → Option Object
object_at scene h = object_by (is_at h) scene.trees

-- the row of h, if it is there
abbrev pub row_at : Scene → ℕ → Option Row
row_at scene h = option_map row_of (object_at scene h)

-- how many chunks the texts of trees take
abbrev pub chunks_in : Forest Object → ℕ
chunks_in Empty = 0
chunks_in (Tree object cs rest) = chunks_of object.text + (chunks_in cs + chunks_in rest)

-- How many glyphs fonts have, how many bytes the bits of these, and how many bytes images have once they are
-- finished.

-- how many glyphs a font has
abbrev pub glyph_count : Font → ℕ
glyph_count font = length font.glyphs

-- how many bytes the bits of a glyph take
abbrev pub ink_of : Glyph → ℕ
ink_of glyph = length glyph.rows

-- how many bytes the bits of all glyphs of a font take
abbrev pub ink_count : Font → ℕ
ink_count font = sum_by ink_of font.glyphs

-- how many bytes an image has once all its rows are given
abbrev pub pixel_count : Image → ℕ
pixel_count image = image_bytes image.format image.width image.height

-- how many slots of a pool are in use
abbrev pub used : Scene → Pool → ℕ
used scene Objects = size scene.trees
used scene Styles = length scene.book.styles
used scene Entries = entries_in scene.book
used scene Uses = uses_in scene.book
used scene Texts = chunks_in scene.trees
used scene Fonts = length scene.fonts
used scene Glyphs = sum_by glyph_count scene.fonts
used scene Ink = sum_by ink_count scene.fonts
used scene Images = length scene.images
used scene Pixels = sum_by pixel_count scene.images
used scene pool = 0

-- how many are free
abbrev pub spare : Scene → Pool → ℕ
spare scene pool = slots scene.limits pool - used scene pool

-- what styles see of an object
abbrev pub styled_of : Book → Object → Styled
styled_of book object = record {
  kind = object.row.kind;
  states = object.row.states;
  uses = uses_of book object.handle;
  locals = locals_of book object.handle;
}

-- h and the objects above it, the nearest first
abbrev pub path_at : Scene → ℕ → List Object
path_at scene h = path_by (is_at h) [] scene.trees

-- the value of a property of a part of h
abbrev pub value : Scene → ℕ → Part → Prop → ℤ
value scene h part prop = value_on scene.book.styles (map (styled_of scene.book) (path_at scene h)) part prop

-- an object that has just been made, with the first values of its kind and without a text
abbrev pub new_object : ℕ → Kind → Object
new_object handle kind = record { handle = handle; row = new_row kind; text = [] }

-- two layers and a screen, which is active
abbrev pub first_trees : Forest Object
first_trees =
    Tree (new_object 1 Layer) Empty
    (Tree (new_object 2 Layer) Empty (Tree (new_object 3 Screen) Empty Empty))

-- the scene in which each run begins
abbrev pub first_scene : Bounds → Scene
first_scene limits =
    record { trees = first_trees; active = 3; book = empty_book; fonts = []; images = []; limits = limits }
