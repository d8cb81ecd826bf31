-- The styles of a scene: the shared ones, what each object sets locally, and the styles that it uses.
use Rattle.std.specs.Prelude.{ℕ, ◌+◌, ℤ, Bool, ◌&&◌, ◌==◌, nat_lt, if◌then◌else◌}
use Rattle.std.specs.Prelude.{List, [], ◌∷◌, ◌++◌, map, fold, is_some, length, replicate, sum_by}
use Rattle.std.specs.Prelude.{slice_index_or, slice_set}
use Rattle.gui_base.specs.declared.props.Prop.{Prop}
use Rattle.gui_base.specs.declared.words.Selector.{Selector}
use Rattle.style_defs.specs.declared.Entry.{Entry}
use Rattle.style_defs.specs.declared.Setting.{Setting}
use Rattle.style_defs.specs.declared.Use.{Use}
use Rattle.style_defs.specs.Cascade.{Style, is_numbered, sets, settings_of, selector_of}
use Rattle.style_defs.specs.Firsts.{first_by, put_by, drop_by}
use Rattle.gui_base.specs.Words.{same_prop, same_selector}

-- all values that are set by styles or locally in a scene
pub record Book : Type 0 where
  -- the shared styles, by their numbers from the least on
  pub styles : List Style
  -- what is set locally, and the styles that are used, by handle
  pub locals : List (List Entry)
  pub uses : List (List Use)

-- an empty list for each number of sixteen bits
unfoldable pub no_lists : {A : Type 0} → List (List A)
no_lists = replicate 65536 []

-- no styles
abbrev pub empty_book : Book
empty_book = record { styles = []; locals = no_lists; uses = no_lists }

-- what is set locally at an object
abbrev pub locals_of : Book → ℕ → List Entry
locals_of book h = slice_index_or book.locals h []

-- the styles that it uses, in the order of adding
abbrev pub uses_of : Book → ℕ → List Use
uses_of book h = slice_index_or book.uses h []

-- whether an entry sets the property for the selector
abbrev pub is_for : Selector → Prop → Entry → Bool
is_for selector prop entry = same_prop entry.prop prop && same_selector (selector_of entry) selector

-- whether two uses are the same
abbrev pub is_use : Use → Use → Bool
is_use u v = (v.style == u.style) && same_selector v.selector u.selector

-- the local entry of a value of a property, for a selector
abbrev pub an_entry : Selector → Prop → ℤ → Entry
an_entry selector prop value =
    record { part = selector.part; prop = prop; states = selector.states; value = value }

-- the use of the style of a number, for a selector
abbrev pub a_use : ℕ → Selector → Use
a_use number selector = record { style = number; selector = selector }

-- a property with the value that a style sets
abbrev pub a_setting : Prop → ℤ → Setting
a_setting prop value = record { prop = prop; value = value }

-- whether an object sets a property locally for just this selector
abbrev pub has_local : Book → ℕ → Selector → Prop → Bool
has_local book h selector prop = is_some (first_by (is_for selector prop) (locals_of book h))

-- whether an object uses a style for just this selector
abbrev pub has_use : Book → ℕ → Use → Bool
has_use book h u = is_some (first_by (is_use u) (uses_of book h))

-- whether the style of a number sets a property
abbrev pub has_setting : Book → ℕ → Prop → Bool
has_setting book number prop = is_some (first_by (sets prop) (settings_of book.styles number))

-- How many slots are in use.

-- how many properties a style sets
abbrev pub settings_count : Style → ℕ
settings_count style = length style.settings

-- how many values are set, by the shared styles and locally; each takes a slot
abbrev pub entries_in : Book → ℕ
entries_in book = sum_by settings_count book.styles + sum_by length book.locals

-- how many uses of styles all objects have together
abbrev pub uses_in : Book → ℕ
uses_in book = sum_by length book.uses

-- The book after a change.

-- one style more, in its place by number
abbrev pub inserted : Style → List Style → List Style
inserted new [] = new ∷ []
inserted new (style ∷ styles) =
    if nat_lt new.number style.number then new ∷ style ∷ styles else style ∷ inserted new styles

-- with a style more, which sets nothing
abbrev pub with_style : Book → ℕ → Book
with_style book number =
    record book { styles = inserted (record { number = number; settings = [] }) book.styles }

-- another list of settings for the style of a number
abbrev pub with_settings : ℕ → (List Setting → List Setting) → Style → Style
with_settings number f style =
    if is_numbered number style then record { number = style.number; settings = f style.settings } else style

-- with a property of a style, in the place of the value that it had, or last
abbrev pub with_prop : Book → ℕ → Setting → Book
with_prop book number setting =
    record book { styles = map (with_settings number (put_by (sets setting.prop) setting)) book.styles }

-- without a property of a style
abbrev pub without_prop : Book → ℕ → Prop → Book
without_prop book number prop =
    record book { styles = map (with_settings number (drop_by (sets prop))) book.styles }

-- with a use more, the last of an object
abbrev pub with_use : Book → ℕ → Use → Book
with_use book h u = record book { uses = slice_set book.uses h (uses_of book h ++ u ∷ []) }

-- without a use of an object
abbrev pub without_use : Book → ℕ → Use → Book
without_use book h u = record book { uses = slice_set book.uses h (drop_by (is_use u) (uses_of book h)) }

-- with a local entry, in the place of the one for the same selector and property, or last
abbrev pub with_local : Book → ℕ → Entry → Book
with_local book h entry =
    let same = is_for (selector_of entry) entry.prop in
    record book { locals = slice_set book.locals h (put_by same entry (locals_of book h)) }

-- without a local entry
abbrev pub without_local : Book → ℕ → Selector → Prop → Book
without_local book h selector prop =
    record book { locals = slice_set book.locals h (drop_by (is_for selector prop) (locals_of book h)) }

-- without all that an object has
abbrev pub forgotten : Book → ℕ → Book
forgotten book h = record book { locals = slice_set book.locals h []; uses = slice_set book.uses h [] }

-- without all that these have
abbrev pub all_forgotten : Book → List ℕ → Book
all_forgotten book handles = fold forgotten book handles
