-- What each change does: it sets the row of an object, changes styles, changes fonts and images, or edits the
-- objects. Here all changes are named: what refuses them, what they take and free, and what is there after them
-- goes by what they do.
use Rattle.std.specs.Prelude.{Bool, true, ◌&&◌, List, Some, None, option_map, pos}
use Rattle.std.specs.declared.option.Option.{Option}
use Rattle.gui_base.specs.Bits.{with_bit, flag_bit, state_bit}
use Rattle.gui_base.specs.Intervals.{is_counted, is_within}
use Rattle.gui_base.specs.Props.{is_value}
use Rattle.gui_base.specs.declared.Handle.{Handle}
use Rattle.gui_base.specs.declared.intervals.TheConstants.{HANDLE, NEW_HANDLE, INDEX, COORDINATE, GROW, SCROLL, VALUE}
use Rattle.gui_base.specs.declared.intervals.TheConstants.{STYLE, FONT, FONT_HEIGHT, ADVANCE, CODE}
use Rattle.gui_base.specs.declared.intervals.TheConstants.{IMAGE, IMAGE_SIDE, IMAGE_ROW}
use Rattle.gui_base.specs.declared.words.Kind.{Kind}
use Rattle.style_defs.specs.Book.{Book}
use Rattle.text_defs.specs.Fonts.{Font}
use Rattle.text_defs.specs.Images.{Image}
use Rattle.scene_defs.specs.declared.Change.{Change}
use Rattle.scene_defs.specs.declared.Change.TheVariants as change
use Rattle.scene_defs.specs.declared.Row.{Row}
use Rattle.scene_defs.specs.Assets.{AssetChange, is_shape}
use Rattle.scene_defs.specs.Assets.{font_begun, glyph_given, font_finished, image_begun, row_given}
use Rattle.scene_defs.specs.Edits.{Edit, screen_made, object_made, tree_removed, text_given, tree_moved}
use Rattle.scene_defs.specs.Edits.{tree_at_index, tree_at_last, screen_loaded, no_edit}
use Rattle.scene_defs.specs.Row.{Setter, of_any, of_child, of_valued, of_pictured, is_size, is_cross, is_range}
use Rattle.scene_defs.specs.Row.{with_value, with_range}
use Rattle.scene_defs.specs.Styling.{Styling, style_made, style_set, style_unset, style_used, style_unused}
use Rattle.scene_defs.specs.Styling.{local_set, local_unset}
use Rattle.scene_defs.specs.Texts.{is_text}

-- what a change does, and whether each number of it lies in its interval, and its text is one that an object
-- may have
pub data Deed : Type 0 where
  SetsRow : Setter → Deed
  SetsStyles : Bool → (List Font → Book → Styling) → Deed
  SetsAssets : Bool → (List Font → List Image → AssetChange) → Deed
  Edits : Bool → Edit → Deed

-- what each change does
abbrev pub deed_of : Change → Deed
deed_of (change.Flag h flag on) =
    SetsRow (of_any h true (λ row. record row { flags = with_bit row.flags (flag_bit flag) on }))
deed_of (change.Pos h x y) =
    SetsRow (of_child h (is_within COORDINATE x && is_within COORDINATE y) (λ row. record row { x = x; y = y }))
deed_of (change.Align h align x y) =
    SetsRow (of_child h (is_within COORDINATE x && is_within COORDINATE y)
    (λ row. record row { align = align; x = x; y = y }))
deed_of (change.Size h width height) =
    SetsRow (of_child h (is_size width && is_size height) (λ row. record row { width = width; height = height }))
deed_of (change.Scroll h x y) =
    SetsRow (of_any h (is_within SCROLL x && is_within SCROLL y)
    (λ row. record row { scroll_x = x; scroll_y = y }))
deed_of (change.Flex h flow) = SetsRow (of_any h true (λ row. record row { flow = flow }))
deed_of (change.Places h main cross track) =
    SetsRow (of_any h (is_cross cross) (λ row. record row { places = (main, cross, track) }))
deed_of (change.Grow h n) = SetsRow (of_child h (is_counted GROW n) (λ row. record row { grow = n }))
deed_of (change.State h state on) =
    SetsRow (of_any h true (λ row. record row { states = with_bit row.states (state_bit state) on }))
deed_of (change.Value h n) = SetsRow (of_valued h (is_within VALUE n) (with_value n))
deed_of (change.Range h low high) = SetsRow (of_valued h (is_range low high) (with_range low high))
deed_of (change.Source h i) =
    SetsRow (of_pictured h i (is_counted IMAGE i) (λ row. record row { image = Some i }))
deed_of (change.Text h text) = Edits (is_counted HANDLE h.0 && is_text text) (text_given h text)
deed_of (change.Screen n) = Edits (is_counted NEW_HANDLE n.0) (screen_made n)
deed_of (change.New n p kind) =
    Edits (is_counted NEW_HANDLE n.0 && is_counted HANDLE p.0) (object_made n p kind)
deed_of (change.Delete h) = Edits (is_counted HANDLE h.0) (tree_removed h)
deed_of (change.Parent h p) = Edits (is_counted HANDLE h.0 && is_counted HANDLE p.0) (tree_moved h p)
deed_of (change.Index h n) = Edits (is_counted HANDLE h.0 && is_counted INDEX n) (tree_at_index h n)
deed_of (change.Front h) = Edits (is_counted HANDLE h.0) (tree_at_last h)
deed_of (change.Back h) = Edits (is_counted HANDLE h.0) (tree_at_index h 0)
deed_of (change.Load h) = Edits (is_counted HANDLE h.0) (screen_loaded h)
deed_of (change.Style s) = SetsStyles (is_counted STYLE s) (style_made s)
deed_of (change.Set s prop value) =
    SetsStyles (is_counted STYLE s && is_value prop value) (style_set s prop value)
deed_of (change.Unset s prop) = SetsStyles (is_counted STYLE s) (style_unset s prop)
deed_of (change.Use h s selector) =
    SetsStyles (is_counted HANDLE h.0 && is_counted STYLE s) (style_used h s selector)
deed_of (change.Unuse h s selector) =
    SetsStyles (is_counted HANDLE h.0 && is_counted STYLE s) (style_unused h s selector)
deed_of (change.Local h selector prop value) =
    SetsStyles (is_counted HANDLE h.0 && is_value prop value) (local_set h selector prop value)
deed_of (change.Unlocal h selector prop) = SetsStyles (is_counted HANDLE h.0) (local_unset h selector prop)
deed_of (change.Font f height advance) =
    SetsAssets (is_counted FONT f && (is_counted FONT_HEIGHT height && is_counted ADVANCE advance))
    (font_begun f height advance)
deed_of (change.Glyph f code shape bytes) =
    SetsAssets (is_counted FONT f && (is_within CODE (pos code) && is_shape shape))
    (glyph_given f code shape bytes)
deed_of (change.EndFont f) = SetsAssets (is_counted FONT f) (font_finished f)
deed_of (change.Image i format w h) =
    SetsAssets (is_counted IMAGE i && (is_counted IMAGE_SIDE w && is_counted IMAGE_SIDE h))
    (image_begun i format w h)
deed_of (change.ImageRow i y bytes) =
    SetsAssets (is_counted IMAGE i && is_counted IMAGE_ROW y) (row_given i y bytes)

-- whether each number of what is done lies in its interval, with the handle of a setter, and the text is one
abbrev pub fits_by : Deed → Bool
fits_by (SetsRow setter) = is_counted HANDLE setter.handle.0 && setter.fits
fits_by (SetsStyles fits styling) = fits
fits_by (SetsAssets fits assets) = fits
fits_by (Edits fits edit) = fits

-- whether each number of a change lies in its interval, and its text is one that an object may have
abbrev pub is_in_range : Change → Bool
is_in_range change = fits_by (deed_of change)

-- What a change asks for, where it does one of these.

-- the setter that a deed is, if it sets a row
abbrev pub setter_in : Deed → Option Setter
setter_in (SetsRow setter) = Some setter
setter_in (SetsStyles fits styling) = None
setter_in (SetsAssets fits assets) = None
setter_in (Edits fits edit) = None

-- the setter of a change, if it sets a row
abbrev pub setter_of : Change → Option Setter
setter_of change = setter_in (deed_of change)

-- what a deed does to the styles, if it changes them; the fonts and the book are those before it
abbrev pub styling_by : List Font → Book → Deed → Option Styling
styling_by fonts book (SetsRow setter) = None
styling_by fonts book (SetsStyles fits styling) = Some (styling fonts book)
styling_by fonts book (SetsAssets fits assets) = None
styling_by fonts book (Edits fits edit) = None

-- what a change does to the styles, if it changes them
abbrev pub styling_of : List Font → Book → Change → Option Styling
styling_of fonts book change = styling_by fonts book (deed_of change)

-- what a deed does to the fonts and images, if it changes them; these are given as they are before it
abbrev pub asset_change_by : List Font → List Image → Deed → Option AssetChange
asset_change_by fonts images (SetsRow setter) = None
asset_change_by fonts images (SetsStyles fits styling) = None
asset_change_by fonts images (SetsAssets fits assets) = Some (assets fonts images)
asset_change_by fonts images (Edits fits edit) = None

-- what a change does to the fonts and images, if it changes them
abbrev pub asset_change_of : List Font → List Image → Change → Option AssetChange
asset_change_of fonts images change = asset_change_by fonts images (deed_of change)

-- what a change edits: nothing, where it does something else
abbrev pub edit_in : Deed → Edit
edit_in (SetsRow setter) = no_edit
edit_in (SetsStyles fits styling) = no_edit
edit_in (SetsAssets fits assets) = no_edit
edit_in (Edits fits edit) = edit

-- the edit of the objects that a change makes: nothing, where it does something else
abbrev pub edit_of : Change → Edit
edit_of change = edit_in (deed_of change)

-- the kind of the object that a change makes below another
abbrev pub kind_made : Change → Option Kind
kind_made change = (edit_of change).makes

-- the object that a change deletes, with all below it
abbrev pub deleted : Change → Option Handle
deleted change = (edit_of change).removes

-- the object whose row a change sets
abbrev pub row_set : Change → Option Handle
row_set change = option_map (λ setter. setter.handle) (setter_of change)

-- what a change makes of that row
abbrev pub set_by : Option Setter → Row → Row
set_by None row = row
set_by (Some setter) row = setter.after row

abbrev pub row_after : Change → Row → Row
row_after change row = set_by (setter_of change) row
