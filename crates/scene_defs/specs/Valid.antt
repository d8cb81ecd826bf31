-- Scenes and changes that are in order. Each fact about numbers and kinds is that a test is true.
use Rattle.std.specs.Prelude.{◌≡◌, ◌≢◌, ◌≤◌, ℕ, Bool, true, false, not, ◌&&◌, ◌||◌, ◌==◌, if◌then◌else◌}
use Rattle.std.specs.declared.option.Option.{Option}
use Rattle.std.specs.Prelude.{Some, None, ℤ, List, [], ◌∷◌, map, length, pos, sum_by}
use Rattle.std.specs.List.{list_any, list_all}
use Rattle.gui_base.specs.declared.intervals.TheConstants.{HANDLE, COORDINATE, MAX_DEPTH, FONT}
use Rattle.gui_base.specs.declared.intervals.TheConstants.{FONT_HEIGHT, ADVANCE, CODE, IMAGE, IMAGE_SIDE}
use Rattle.gui_base.specs.declared.words.Kind.{Kind}
use Rattle.gui_base.specs.declared.words.Kind.TheVariants.{Layer}
use Rattle.gui_base.specs.declared.words.Length.{Length}
use Rattle.style_defs.specs.Book.{entries_in, uses_in}
use Rattle.style_defs.specs.InOrder.{IsBook, IsBare}
use Rattle.gui_base.specs.Forest.{Forest, Empty, Tree, all_by, roots, size, height, StandsOnce}
use Rattle.gui_base.specs.Intervals.{is_counted, is_within}
use Rattle.gui_base.specs.Grids.{IsGridded}
use Rattle.gui_base.specs.Limits.{Bounds, panel_in}
use Rattle.text_defs.specs.Building.{is_whole}
use Rattle.text_defs.specs.Fonts.{Font, Glyph}
use Rattle.text_defs.specs.Images.{Image}
use Rattle.scene_defs.specs.declared.Change.{Change}
use Rattle.scene_defs.specs.Change.{changed}
use Rattle.scene_defs.specs.Edits.{is_screen_kind}
use Rattle.scene_defs.specs.declared.Row.{Row}
use Rattle.scene_defs.specs.Deeds.{kind_made}
use Rattle.scene_defs.specs.NamedFonts.{AreReady}
use Rattle.scene_defs.specs.Assets.{is_shape}
use Rattle.scene_defs.specs.Texts.{is_text, is_shown_image}
use Rattle.scene_defs.specs.Row.{is_root, is_row, is_size}
use Rattle.scene_defs.specs.Scene.{Object, Scene, is_at, handles_of, is_there, first_scene}
use Rattle.scene_defs.specs.Scene.{chunks_in, glyph_count, ink_count, pixel_count}
use Rattle.scene_defs.specs.Walk.{IsShowable}

-- a wanted coordinate in pixels
abbrev pub IsOffset : ℤ → Type 0
IsOffset n = is_within COORDINATE n ≡ true

-- a wanted width or height
abbrev pub IsSize : Length → Type 0
IsSize length = is_size length ≡ true

abbrev pub IsRow : Row → Type 0
IsRow row = is_row row ≡ true

-- whether the handle and each number of an object do, its text is one that may be, and its picture is one of
-- these images that is finished
abbrev pub in_order : List Image → Object → Bool
in_order images object =
    is_counted HANDLE object.handle && (is_row object.row && (is_text object.text &&
    is_shown_image images object.row.image))

abbrev pub is_layer_kind : Kind → Bool
is_layer_kind Layer = true
is_layer_kind kind = false

-- whether an object is a layer at 1 and 2, and a screen elsewhere
abbrev pub is_root_object : Object → Bool
is_root_object object =
    if object.handle == 1 || object.handle == 2 then is_layer_kind object.row.kind
    else is_screen_kind object.row.kind

abbrev pub is_plain : Object → Bool
is_plain object = not (is_root object.row.kind)

-- whether roots are layers and screens, and all below them are plain objects
abbrev pub have_kinds : Forest Object → Bool
have_kinds Empty = true
have_kinds (Tree object cs rest) = is_root_object object && (all_by is_plain cs && have_kinds rest)

-- whether h is a root
abbrev pub is_root_at : Forest Object → ℕ → Bool
is_root_at trees h = list_any (is_at h) (roots trees)

-- trees, and the screen among them that is shown, are in order
pub record AreTrees (trees : Forest Object) (screen : ℕ) : Type 0 where
  pub once : StandsOnce (handles_of trees)
  pub top_layer : is_root_at trees 1 ≡ true
  pub system_layer : is_root_at trees 2 ≡ true
  pub first_screen : is_root_at trees 3 ≡ true
  pub active : is_root_at trees screen ≡ true
  pub above_top : screen ≢ 1
  pub above_system : screen ≢ 2
  pub low : height trees ≤ MAX_DEPTH

-- the rows of trees are in order
pub record AreRows (images : List Image) (trees : Forest Object) : Type 0 where
  pub kinds : have_kinds trees ≡ true
  pub numbers : all_by (in_order images) trees ≡ true

-- whether a number stands among others, and whether each stands once
abbrev pub is_among : List ℕ → ℕ → Bool
is_among ns n = list_any (λ m. m == n) ns

abbrev pub stand_once : List ℕ → Bool
stand_once [] = true
stand_once (n ∷ ns) = not (is_among ns n) && stand_once ns

-- whether each number of a glyph lies in its interval, and it has as many bytes as its box asks for
abbrev pub is_glyph : Glyph → Bool
is_glyph glyph = is_within CODE (pos glyph.code) && (is_shape glyph.shape && is_whole glyph)

-- whether each number of a font, and of an image, lies in its interval
abbrev pub is_font : Font → Bool
is_font font =
    is_counted FONT font.name && (is_counted FONT_HEIGHT font.height &&
    (is_counted ADVANCE font.advance && list_all is_glyph font.glyphs))

abbrev pub is_image : Image → Bool
is_image image =
    is_counted IMAGE image.name && (is_counted IMAGE_SIDE image.width && is_counted IMAGE_SIDE image.height)

abbrev pub font_names : List Font → List ℕ
font_names fonts = map (λ font. font.name) fonts

abbrev pub image_names : List Image → List ℕ
image_names images = map (λ image. image.name) images

-- fonts and images are in order
pub record AreAssets (fonts : List Font) (images : List Image) : Type 0 where
  pub fonts_fit : list_all is_font fonts ≡ true
  pub fonts_once : stand_once (font_names fonts) ≡ true
  pub images_fit : list_all is_image images ≡ true
  pub images_once : stand_once (image_names images) ≡ true

-- no pool is over its count
pub record FitPools (scene : Scene) : Type 0 where
  pub objects : size scene.trees ≤ scene.limits.objects
  pub styles : length scene.book.styles ≤ scene.limits.styles
  pub entries : entries_in scene.book ≤ scene.limits.entries
  pub uses : uses_in scene.book ≤ scene.limits.uses
  pub texts : chunks_in scene.trees ≤ scene.limits.texts
  pub fonts : length scene.fonts ≤ scene.limits.fonts
  pub glyphs : sum_by glyph_count scene.fonts ≤ scene.limits.glyphs
  pub ink : sum_by ink_count scene.fonts ≤ scene.limits.ink
  pub images : length scene.images ≤ scene.limits.images
  pub pixels : sum_by pixel_count scene.images ≤ scene.limits.pixels

-- The panel of these limits consists of whole blocks. It is no record, so that proofs that do not ask for its
-- blocks do not look into it.
pub data HasWholeBlocks (limits : Bounds) : Type 0 where
  gridded : IsGridded limits.block (panel_in limits) → HasWholeBlocks limits

-- a scene that is in order
pub record IsValid (scene : Scene) : Type 0 where
  pub trees : AreTrees scene.trees scene.active
  pub rows : AreRows scene.images scene.trees
  pub book : IsBook scene.book
  -- who is not there has nothing
  pub bare : (h : ℕ) → is_there scene h ≡ false → IsBare scene.book h
  pub assets : AreAssets scene.fonts scene.images
  pub named : AreReady scene.fonts scene.book
  pub pools : FitPools scene
  pub blocks : HasWholeBlocks scene.limits

-- a kind, if there is one, is that of a plain object
abbrev pub IsPlainKind : Option Kind → Type 0
IsPlainKind None = Unit {0}
IsPlainKind (Some kind) = is_root kind ≡ false

-- a change that may be asked for: below a parent stand plain objects, and no screens or layers
abbrev pub IsChange : Change → Type 0
IsChange change = IsPlainKind (kind_made change)

-- what is shown of a scene in order is met by a walk
abbrev pub ValidIsShowable : Type 0
ValidIsShowable = (scene : Scene) → IsValid scene → IsShowable scene

-- the first scene is in order where its three roots fit, and its panel consists of whole blocks
abbrev pub FirstIsValid : Type 0
FirstIsValid = (limits : Bounds) → 3 ≤ limits.objects → HasWholeBlocks limits → IsValid (first_scene limits)

abbrev pub ChangeKeepsValid : Type 0
ChangeKeepsValid =
    (scene : Scene) (change : Change) → IsValid scene → IsChange change → IsValid (changed scene change)
