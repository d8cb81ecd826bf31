-- Values of JSON as words of a line. A string is used only where it is one word, so that no string is more of a
-- line than is meant.
use Rattle.std.specs.Prelude.{ℕ, ℤ, ◌-◌, Bool, true, false, ◌&&◌, ◌||◌, ◌==◌, if◌then◌else◌, List, [], ◌∷◌}
use Rattle.std.specs.Prelude.{length, codes, bytes_eq, get_or, Some, None, is_some, option_map}
use Rattle.std.specs.Fmt.{signed_decimal}
use Rattle.std.specs.List.{list_any, slice_split, after_first}
use Rattle.std.specs.Option.{option_and_then}
use Rattle.std.specs.declared.option.Option.{Option}
use Rattle.serde_json.specs.Data.{Data}
use Rattle.serde_json.specs.Find.{as_number, as_i64, as_str}
use Rattle.gui_base.specs.Bits.{has_bit, with_bit, state_bit}
use Rattle.gui_base.specs.Names.{table, named}
use Rattle.gui_base.specs.declared.props.Prop.{Prop}
use Rattle.gui_base.specs.declared.props.Prop.TheVariants as prop
use Rattle.gui_base.specs.declared.props.TheConstants.{PROPS}
use Rattle.run_defs.specs.Language.{Word}
use Rattle.run_defs.specs.Selectors.{is_plus, is_colon, part_in, state_named}
use Rattle.line_texts.specs.LineTexts.{is_plain}

-- what is so, and none where it is not
abbrev pub that : {A : Type 0} → (A → Bool) → Option A → Option A
that test None = None
that test (Some a) = if test a then Some a else None

-- the first, or else the second
abbrev pub either : {A : Type 0} → Option A → Option A → Option A
either None other = other
either (Some a) other = Some a

-- Numbers and strings.

abbrev pub integer : Data → Option ℤ
integer d = option_and_then as_i64 (as_number d)

abbrev pub number_word : Data → Option Word
number_word d = option_map signed_decimal (integer d)

abbrev pub string_word : Data → Option Word
string_word d = that is_plain (as_str d)

-- a share of the parent, or `content`
abbrev pub is_share : Word → Bool
is_share word = bytes_eq word (codes "content") || get_or word (length word - 1) 0 == 37

-- a width or a height
abbrev pub extent_word : Data → Option Word
extent_word d = either (number_word d) (that is_share (string_word d))

-- Values of properties.

-- those that are strings: colours, and how texts are aligned
abbrev pub is_string_prop : Prop → Bool
is_string_prop prop.BgColor = true
is_string_prop prop.BorderColor = true
is_string_prop prop.ImgRecolor = true
is_string_prop prop.TextColor = true
is_string_prop prop.TextAlign = true
is_string_prop other = false

abbrev pub is_font : Prop → Bool
is_font prop.TextFont = true
is_font other = false

abbrev pub is_zero : Word → Bool
is_zero word = bytes_eq word (codes "0")

-- the built-in font alone
abbrev pub font_word : Data → Option Word
font_word d = that is_zero (number_word d)

abbrev pub value_word : Prop → Data → Option Word
value_word p d =
    if is_string_prop p then string_word d else if is_font p then font_word d else number_word d

unfoldable pub prop_named : Word → Option Prop
prop_named name = named (table {A = Prop} PROPS) name

-- Selectors.

-- the set with the states of these names, where each of them names one that is not there yet
abbrev pub with_new_states : ℕ → List Word → Option ℕ
with_new_states set [] = Some set
with_new_states set (name ∷ names) =
    option_and_then
    (λ state. if has_bit set (state_bit state) then None
    else with_new_states (with_bit set (state_bit state) true) names)
    (state_named name)

-- whether these name states, and none of them twice
abbrev pub are_states : List Word → Bool
are_states names = is_some (with_new_states 0 names)

-- a selector that names no state twice
abbrev pub is_selector : Word → Bool
is_selector word =
    is_some (part_in word)
    && (if list_any is_colon word then are_states (slice_split is_plus (after_first is_colon word)) else true)
