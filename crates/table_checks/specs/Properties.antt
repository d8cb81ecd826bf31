-- The properties, the states and the flags.
use Rattle.std.specs.Prelude.{◌≡◌, ℕ, ◌^◌, Bool, true, false, List, [], ◌∷◌, map, codes, ℤ, pos}
use Rattle.std.specs.Prelude.{replicate}
use Rattle.gui_base.specs.Bits.{flag_bit, state_bit}
use Rattle.gui_base.specs.Names.{table}
use Rattle.gui_base.specs.Props.{values_of, default_of, inherits}
use Rattle.gui_base.specs.declared.props.Prop.{Prop}
use Rattle.gui_base.specs.declared.props.Prop.TheVariants.{BgColor, BgOpa, BorderColor, BorderOpa}
use Rattle.gui_base.specs.declared.props.Prop.TheVariants.{BorderWidth, PadTop, PadBottom, PadLeft}
use Rattle.gui_base.specs.declared.props.Prop.TheVariants.{PadRight, PadRow, PadColumn, ImgRecolor}
use Rattle.gui_base.specs.declared.props.Prop.TheVariants.{ImgOpa, TextColor, TextOpa, TextFont}
use Rattle.gui_base.specs.declared.props.Prop.TheVariants.{TextAlign, TextLetterSpace, TextLineSpace}
use Rattle.gui_base.specs.declared.props.TheConstants.{PROPS}
use Rattle.gui_base.specs.declared.words.Flag.{Flag}
use Rattle.gui_base.specs.declared.words.Flag.TheVariants.{Hidden, Clickable, Checkable, Bubble, Scrollable}
use Rattle.gui_base.specs.declared.words.State.{State}
use Rattle.gui_base.specs.declared.words.State.TheVariants.{Checked, Focused, FocusKey, Edited, Hovered}
use Rattle.gui_base.specs.declared.words.State.TheVariants.{Pressed, Scrolled, Disabled, User1, User2, User3}
use Rattle.gui_base.specs.declared.words.State.TheVariants.{User4}
use Rattle.gui_base.specs.declared.words.TheConstants.{FLAGS, STATES}

-- a property: its name, its greatest value, its value where nothing sets it, and whether it is inherited
abbrev pub PropRow : Type 0
PropRow = List ℕ × Prop × ℤ × ℤ × Bool

abbrev pub prop_row : List ℕ × Prop → PropRow
prop_row named =
    (named.0, named.1, (values_of named.1).high, default_of named.1, inherits named.1)

pub record PropertiesAreThese : Type 0 where
  pub rows :
      map prop_row (table {A = Prop} PROPS)
      ≡ (codes "bg_color", BgColor, pos 16777215, pos 16777215, false)
      ∷ (codes "bg_opa", BgOpa, pos 255, pos 0, false)
      ∷ (codes "border_color", BorderColor, pos 16777215, pos 0, false)
      ∷ (codes "border_opa", BorderOpa, pos 255, pos 255, false)
      ∷ (codes "border_width", BorderWidth, pos 100, pos 0, false)
      ∷ (codes "pad_top", PadTop, pos 1000, pos 0, false)
      ∷ (codes "pad_bottom", PadBottom, pos 1000, pos 0, false)
      ∷ (codes "pad_left", PadLeft, pos 1000, pos 0, false)
      ∷ (codes "pad_right", PadRight, pos 1000, pos 0, false)
      ∷ (codes "pad_row", PadRow, pos 1000, pos 0, false)
      ∷ (codes "pad_column", PadColumn, pos 1000, pos 0, false)
      ∷ (codes "img_recolor", ImgRecolor, pos 16777215, pos 0, false)
      ∷ (codes "img_opa", ImgOpa, pos 255, pos 255, false)
      ∷ (codes "text_color", TextColor, pos 16777215, pos 0, true)
      ∷ (codes "text_opa", TextOpa, pos 255, pos 255, true)
      ∷ (codes "text_font", TextFont, pos 99, pos 0, true)
      ∷ (codes "text_align", TextAlign, pos 2, pos 0, true)
      ∷ (codes "text_letter_space", TextLetterSpace, pos 100, pos 0, true)
      ∷ (codes "text_line_space", TextLineSpace, pos 100, pos 0, true)
      ∷ []
  -- the least value of each
  pub least : map (λ named. (values_of named.1).low) (table {A = Prop} PROPS) ≡ replicate 19 (pos 0)

-- The numbers of states in a set of states; of each its name comes first.

abbrev pub state_row : List ℕ × State → List ℕ × State × ℕ
state_row named = (named.0, named.1, 2 ^ state_bit named.1)

abbrev pub StatesAreThese : Type 0
StatesAreThese =
    map state_row (table {A = State} STATES)
    ≡ (codes "checked", Checked, 1)
    ∷ (codes "focused", Focused, 2)
    ∷ (codes "focus_key", FocusKey, 4)
    ∷ (codes "edited", Edited, 8)
    ∷ (codes "hovered", Hovered, 16)
    ∷ (codes "pressed", Pressed, 32)
    ∷ (codes "scrolled", Scrolled, 64)
    ∷ (codes "disabled", Disabled, 128)
    ∷ (codes "user1", User1, 4096)
    ∷ (codes "user2", User2, 8192)
    ∷ (codes "user3", User3, 16384)
    ∷ (codes "user4", User4, 32768)
    ∷ []

abbrev pub flag_row : List ℕ × Flag → List ℕ × Flag × ℕ
flag_row named = (named.0, named.1, 2 ^ flag_bit named.1)

abbrev pub FlagsAreThese : Type 0
FlagsAreThese =
    map flag_row (table {A = Flag} FLAGS)
    ≡ (codes "hidden", Hidden, 1)
    ∷ (codes "clickable", Clickable, 2)
    ∷ (codes "checkable", Checkable, 4)
    ∷ (codes "bubble", Bubble, 8)
    ∷ (codes "scrollable", Scrollable, 16)
    ∷ []
