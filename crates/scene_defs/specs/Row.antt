-- The row of an object: its first values, the intervals of its numbers, and the changes that set it.
use Rattle.std.specs.Prelude.{ℕ, Bool, true, false, ◌&&◌, if◌then◌else◌, Some, None}
use Rattle.std.specs.Prelude.{ℤ, pos, int_le, int_lt}
use Rattle.std.specs.declared.option.Option.{Option}
use Rattle.gui_base.specs.Bits.{has_bit, flag_bit}
use Rattle.gui_base.specs.Intervals.{is_counted, is_within}
use Rattle.gui_base.specs.declared.Handle.{Handle}
use Rattle.gui_base.specs.declared.intervals.TheConstants.{EXTENT, PERCENT, COORDINATE, GROW, SCROLL, VALUE}
use Rattle.gui_base.specs.declared.words.Flag.{Flag}
use Rattle.gui_base.specs.declared.words.Kind.{Kind}
use Rattle.gui_base.specs.declared.words.Kind.TheVariants.{Screen, Layer}
use Rattle.gui_base.specs.declared.words.Length.{Length}
use Rattle.gui_base.specs.declared.words.Length.TheVariants.{Pixels, Percent, Content}
use Rattle.gui_base.specs.declared.words.Align.TheVariants.{TopLeft}
use Rattle.gui_base.specs.declared.words.Placing.{Placing}
use Rattle.gui_base.specs.declared.words.Placing.TheVariants.{Start, End, Center, SpaceEvenly, SpaceAround}
use Rattle.gui_base.specs.declared.words.Placing.TheVariants.{SpaceBetween}
use Rattle.scene_defs.specs.declared.Feature.{Feature}
use Rattle.scene_defs.specs.declared.Feature.TheVariants.{Text, Value, Picture}
use Rattle.scene_defs.specs.declared.Row.{Row}
use Rattle.gui_pool.specs.declared.chains.TextId.{TextId}
use Rattle.widget_defs.specs.Kinds.{facts, first_flags, first_width, first_height, first_flow}

-- the kinds of roots
abbrev pub is_root : Kind → Bool
is_root Screen = true
is_root Layer = true
is_root kind = false

-- whether a flag is on
abbrev pub is_on : ℕ → Flag → Bool
is_on flags flag = has_bit flags (flag_bit flag)

-- a scene names no text: it shows the text itself
abbrev pub no_name : TextId
no_name = record { 0 = 0 }

abbrev pub shown_row : Row → Row
shown_row row = record row { text = no_name }

-- a new object of a kind: at its parent's corner, in no state, without text and picture
abbrev pub new_row : Kind → Row
new_row kind = record {
  kind = kind;
  flags = first_flags kind;
  states = 0;
  x = pos 0;
  y = pos 0;
  align = TopLeft;
  width = first_width kind;
  height = first_height kind;
  flow = first_flow kind;
  places = (Start, Start, Start);
  grow = 0;
  scroll_x = pos 0;
  scroll_y = pos 0;
  value = pos 0;
  min = pos 0;
  max = pos 100;
  image = None;
  text = no_name;
}

-- The intervals of its numbers.

-- a wanted width or height
abbrev pub is_size : Length → Bool
is_size (Pixels n) = is_counted EXTENT n
is_size (Percent n) = is_counted PERCENT n
is_size Content = true

-- a placing of the items of a track across it: one of those that deal out no space between items
abbrev pub is_cross : Placing → Bool
is_cross Start = true
is_cross End = true
is_cross Center = true
is_cross SpaceEvenly = false
is_cross SpaceAround = false
is_cross SpaceBetween = false

-- the ends of a range, in order
abbrev pub is_range : ℤ → ℤ → Bool
is_range low high = is_within VALUE low && (is_within VALUE high && int_lt low high)

-- a range with a value in it
abbrev pub is_ranged : Row → Bool
is_ranged row = is_range row.min row.max && (int_le row.min row.value && int_le row.value row.max)

-- whether each number of a row lies in its interval
abbrev pub is_row : Row → Bool
is_row row =
    is_within COORDINATE row.x && (is_within COORDINATE row.y &&
    (is_size row.width && (is_size row.height && (is_cross row.places.1 && (is_counted GROW row.grow &&
    (is_within SCROLL row.scroll_x && (is_within SCROLL row.scroll_y && is_ranged row)))))))

-- a value, brought into a range
abbrev pub brought_in : ℤ → ℤ → ℤ → ℤ
brought_in low high n = if int_lt n low then low else if int_lt high n then high else n

-- the row with another value, which is brought into its range
abbrev pub with_value : ℤ → Row → Row
with_value n row = record row { value = brought_in row.min row.max n }

-- the row with another range, into which its value is brought
abbrev pub with_range : ℤ → ℤ → Row → Row
with_range low high row =
    record row { min = low; max = high; value = brought_in low high row.value }

-- The kinds that have a value, a picture, and a text.

-- whether objects of a kind have a value in a range
abbrev pub has_value : Kind → Bool
has_value kind = (facts kind).value

-- whether objects of a kind show an image
abbrev pub has_picture : Kind → Bool
has_picture kind = (facts kind).picture

-- whether objects of a kind have a text of their own
abbrev pub has_text : Kind → Bool
has_text kind = (facts kind).text

-- whether objects of a kind have a feature
abbrev pub has_feature : Feature → Kind → Bool
has_feature Text kind = has_text kind
has_feature Value kind = has_value kind
has_feature Picture kind = has_picture kind

-- The changes that set the row of one object, and do nothing else.
pub record Setter : Type 0 where
  pub handle : Handle
  -- whether each number that it sets lies in its interval
  pub fits : Bool
  -- whether roots refuse it
  pub needs_parent : Bool
  -- what it sets, where not all kinds have it
  pub feature : Option Feature
  -- the image that it names
  pub image : Option ℕ
  -- the row after it
  pub after : Row → Row

-- a setter that any object takes
abbrev pub of_any : Handle → Bool → (Row → Row) → Setter
of_any h fits after = record {
  handle = h;
  fits = fits;
  needs_parent = false;
  feature = None;
  image = None;
  after = after;
}

-- a setter that only an object with a parent takes
abbrev pub of_child : Handle → Bool → (Row → Row) → Setter
of_child h fits after = record {
  handle = h;
  fits = fits;
  needs_parent = true;
  feature = None;
  image = None;
  after = after;
}

-- a setter that only an object with a value takes
abbrev pub of_valued : Handle → Bool → (Row → Row) → Setter
of_valued h fits after = record {
  handle = h;
  fits = fits;
  needs_parent = false;
  feature = Some Value;
  image = None;
  after = after;
}

-- a setter that only an object that shows an image takes, and the image that it names
abbrev pub of_pictured : Handle → ℕ → Bool → (Row → Row) → Setter
of_pictured h image fits after = record {
  handle = h;
  fits = fits;
  needs_parent = false;
  feature = Some Picture;
  image = Some image;
  after = after;
}
