-- The limits, their ranges, and what they are where no word asks for others.
use Rattle.std.specs.Prelude.{◌≡◌, ℕ, ◌≤◌, ◌%◌, None, pos}
use Rattle.std.specs.declared.option.Option.{Option}
use Rattle.std.specs.Option.{ForSome}
use Rattle.gui_base.specs.declared.limits.Pool.{Pool}
use Rattle.gui_base.specs.declared.limits.Pool.TheVariants.{Objects, Styles, Entries, Uses, Texts, Fonts}
use Rattle.gui_base.specs.declared.limits.Pool.TheVariants.{Glyphs, Ink, Images, Pixels, Handlers, Groups}
use Rattle.gui_base.specs.declared.limits.Pool.TheVariants.{Anims}
use Rattle.gui_base.specs.Area.{Rect, area_at}
use Rattle.gui_base.specs.Grids.{BlockSize, one_pixel, grid_over}
use Rattle.gui_base.specs.Pools.{least, most, default}
use Rattle.gui_base.specs.Rounding.{Rounding}

-- the sizes of a panel in pixels, and the lines of its draw buffer
pub record IsPanel (width height lines : ℕ) : Type 0 where
  pub some_width : 1 ≤ width
  pub most_width : width ≤ 1024
  pub some_height : 1 ≤ height
  pub most_height : height ≤ 1024
  pub some_lines : 1 ≤ lines
  pub most_lines : lines ≤ height

-- the panel and its draw buffer consist of whole blocks of so many pixels and lines
pub record HaveBlocks (width height lines w h : ℕ) : Type 0 where
  pub wide : width % w ≡ 0
  pub high : height % h ≡ 0
  pub lined : lines % h ≡ 0

-- how many slots the pools of objects and their styles may have
pub record AreScenePools (objects styles entries uses : ℕ) : Type 0 where
  pub least_objects : least Objects ≤ objects
  pub most_objects : objects ≤ most Objects
  pub most_styles : styles ≤ most Styles
  pub most_entries : entries ≤ most Entries
  pub most_uses : uses ≤ most Uses

-- the pools of texts, fonts and images
pub record AreMediaPools (texts fonts glyphs ink images pixels : ℕ) : Type 0 where
  pub most_texts : texts ≤ most Texts
  pub most_fonts : fonts ≤ most Fonts
  pub most_glyphs : glyphs ≤ most Glyphs
  pub most_ink : ink ≤ most Ink
  pub most_images : images ≤ most Images
  pub most_pixels : pixels ≤ most Pixels

-- the pools of event handlers, focus groups and animations
pub record AreEventPools (handlers groups anims : ℕ) : Type 0 where
  pub most_handlers : handlers ≤ most Handlers
  pub most_groups : groups ≤ most Groups
  pub most_anims : anims ≤ most Anims

-- the number of a made script
abbrev pub IsMade : Option ℕ → Type 0
IsMade make = ForSome make (λ k. (1 ≤ k) × (k ≤ 1000))

-- the limits as numbers
pub record Bounds : Type 0 where
  pub width : ℕ
  pub height : ℕ
  pub lines : ℕ
  pub block : BlockSize
  pub objects : ℕ
  pub styles : ℕ
  pub entries : ℕ
  pub uses : ℕ
  pub texts : ℕ
  pub fonts : ℕ
  pub glyphs : ℕ
  pub ink : ℕ
  pub images : ℕ
  pub pixels : ℕ
  pub handlers : ℕ
  pub groups : ℕ
  pub anims : ℕ
  pub make : Option ℕ

-- all pixels of the panel
abbrev pub panel_in : Bounds → Rect
panel_in limits = area_at (pos 0) (pos 0) limits.width limits.height

-- the grid of blocks to which the panel widens an area
abbrev pub grid_in : Bounds → Rounding
grid_in limits = grid_over limits.block (panel_in limits)

-- these sizes, blocks of a single pixel, each pool with its default, and no made script
abbrev pub with_sizes : ℕ → ℕ → ℕ → Bounds
with_sizes width height lines = record {
  width = width;
  height = height;
  lines = lines;
  block = one_pixel;
  objects = default Objects;
  styles = default Styles;
  entries = default Entries;
  uses = default Uses;
  texts = default Texts;
  fonts = default Fonts;
  glyphs = default Glyphs;
  ink = default Ink;
  images = default Images;
  pixels = default Pixels;
  handlers = default Handlers;
  groups = default Groups;
  anims = default Anims;
  make = None;
}

-- the slots of a pool
abbrev pub slots : Bounds → Pool → ℕ
slots limits Objects = limits.objects
slots limits Styles = limits.styles
slots limits Entries = limits.entries
slots limits Uses = limits.uses
slots limits Texts = limits.texts
slots limits Fonts = limits.fonts
slots limits Glyphs = limits.glyphs
slots limits Ink = limits.ink
slots limits Images = limits.images
slots limits Pixels = limits.pixels
slots limits Handlers = limits.handlers
slots limits Groups = limits.groups
slots limits Anims = limits.anims

-- the limits with so many slots of a pool
abbrev pub with_slots : Pool → Bounds → ℕ → Bounds
with_slots Objects limits n = record limits { objects = n }
with_slots Styles limits n = record limits { styles = n }
with_slots Entries limits n = record limits { entries = n }
with_slots Uses limits n = record limits { uses = n }
with_slots Texts limits n = record limits { texts = n }
with_slots Fonts limits n = record limits { fonts = n }
with_slots Glyphs limits n = record limits { glyphs = n }
with_slots Ink limits n = record limits { ink = n }
with_slots Images limits n = record limits { images = n }
with_slots Pixels limits n = record limits { pixels = n }
with_slots Handlers limits n = record limits { handlers = n }
with_slots Groups limits n = record limits { groups = n }
with_slots Anims limits n = record limits { anims = n }

-- the limits with blocks of this size
abbrev pub with_block : Bounds → BlockSize → Bounds
with_block limits block = record limits { block = block }
