-- The limits of the code as numbers.
use Rattle.gui_base.specs.Gridded.{size_in}
use Rattle.gui_base.specs.Limits.{Bounds}
use Rattle.gui_base.specs.declared.limits.Limits.{Limits}

-- the limits that the code holds
abbrev pub bounds_of : Limits → Bounds
bounds_of l = record {
  width = l.width;
  height = l.height;
  lines = l.lines;
  block = size_in l.block;
  objects = l.objects;
  styles = l.styles;
  entries = l.entries;
  uses = l.uses;
  texts = l.texts;
  fonts = l.fonts;
  glyphs = l.glyphs;
  ink = l.ink;
  images = l.images;
  pixels = l.pixels;
  handlers = l.handlers;
  groups = l.groups;
  anims = l.anims;
  make = l.make;
}
