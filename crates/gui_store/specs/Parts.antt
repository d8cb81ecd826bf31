-- The parts of a store, and the scene that they show.
use Rattle.std.specs.Prelude.{◌≡◌, ℕ, ◌+◌, length, is_some}
use Rattle.gui_base.specs.declared.intervals.TheConstants.{HANDLE}
use Rattle.gui_base.specs.declared.limits.Pool.TheVariants.{Objects, Styles as StyleSlots, Entries}
use Rattle.gui_base.specs.declared.limits.Pool.TheVariants.{Uses, Texts}
use Rattle.gui_base.specs.declared.limits.Pool.TheVariants.{Fonts, Glyphs, Ink, Images, Pixels}
use Rattle.gui_base.specs.Forest.{map_forest, has}
use Rattle.gui_base.specs.Limits.{Bounds}
use Rattle.gui_font.specs.ImageSets.{ImageSet}
use Rattle.gui_font.specs.Sets.{FontSet}
use Rattle.gui_pool.specs.Table.{Table, value_at}
use Rattle.gui_style.specs.Styles.{Styles}
use Rattle.gui_tree.specs.Trees.{Trees}
use Rattle.scene_defs.specs.Scene.{Scene, spare}
use Rattle.scene_defs.specs.Valid.{IsValid}
use Rattle.gui_store.specs.RowSets.{KeptRow}
use Rattle.gui_store.specs.Rows.{object_in}

pub record Parts : Type 0 where
  pub tree : Trees
  -- by handle
  pub rows : Table KeptRow
  pub spare_texts : ℕ
  pub styles : Styles
  pub fonts : FontSet
  pub images : ImageSet
  pub active : ℕ
  pub limits : Bounds

-- the trees with the object of each handle, the book of the styles, the fonts and the images
abbrev pub scene_in : Parts → Scene
scene_in p = record {
  trees = map_forest (object_in p.rows) p.tree.forest;
  active = p.active;
  book = p.styles.book;
  fonts = p.fonts.fonts;
  images = p.images.images;
  limits = p.limits;
}

-- what holds of the parts at all times
pub record AreKept (p : Parts) : Type 0 where
  pub valid : IsValid (scene_in p)
  pub handles : length p.rows.values ≡ HANDLE.high + 1
  -- each object has a row, and nothing else has
  pub rows : (h : ℕ) → is_some (value_at p.rows h) ≡ has p.tree.forest h
  pub room : p.rows.spare ≡ p.tree.spare
  -- as many slots are spare as in the scene
  pub objects : p.tree.spare ≡ spare (scene_in p) Objects
  pub styles : p.styles.spare_styles ≡ spare (scene_in p) StyleSlots
  pub entries : p.styles.spare_entries ≡ spare (scene_in p) Entries
  pub uses : p.styles.spare_uses ≡ spare (scene_in p) Uses
  pub texts : p.spare_texts ≡ spare (scene_in p) Texts
  pub fonts : p.fonts.spare_fonts ≡ spare (scene_in p) Fonts
  pub glyphs : p.fonts.spare_glyphs ≡ spare (scene_in p) Glyphs
  pub ink : p.fonts.spare_ink ≡ spare (scene_in p) Ink
  pub images : p.images.spare_images ≡ spare (scene_in p) Images
  pub pixels : p.images.spare_pixels ≡ spare (scene_in p) Pixels
