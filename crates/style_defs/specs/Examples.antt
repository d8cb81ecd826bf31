-- Cascades and values that were worked out by hand.
use Rattle.std.specs.Prelude.{◌≡◌, ℕ, ℤ, pos, Some, None, List, [], ◌∷◌}
use Rattle.std.specs.declared.option.Option.{Option}
use Rattle.style_defs.specs.Cascade.{Style, winning}
use Rattle.style_defs.specs.Value.{Styled, value_on}
use Rattle.gui_base.specs.declared.words.Kind.{Kind}
use Rattle.gui_base.specs.declared.words.Kind.TheVariants.{Screen, Obj}
use Rattle.gui_base.specs.declared.words.Part.{Part}
use Rattle.gui_base.specs.declared.words.Part.TheVariants.{Main, Knob}
use Rattle.gui_base.specs.declared.props.Prop.{Prop}
use Rattle.gui_base.specs.declared.props.Prop.TheVariants.{BgColor, BgOpa, TextColor}
use Rattle.gui_base.specs.declared.words.Selector.{Selector}
use Rattle.style_defs.specs.declared.Entry.{Entry}
use Rattle.style_defs.specs.declared.Use.{Use}

abbrev checked : ℕ
checked = 1

abbrev pressed : ℕ
pressed = 32

abbrev on : Part → ℕ → Selector
on part states = record { part = part; states = states }

abbrev sets_opa : ℕ → ℕ → Style
sets_opa number opa = record { number = number; settings = record { prop = BgOpa; value = pos opa } ∷ [] }

abbrev uses_on : ℕ → Selector → Use
uses_on number selector = record { style = number; selector = selector }

abbrev local_opa : Selector → ℕ → Entry
local_opa selector opa =
    record { part = selector.part; prop = BgOpa; states = selector.states; value = pos opa }

-- the styles 1 and 2 set an opacity of 10 and 20
abbrev two_styles : List Style
two_styles = sets_opa 1 10 ∷ sets_opa 2 20 ∷ []

-- style 1 is used for some states, and a local entry of 30 is for others
abbrev of_one_and_local : ℕ → ℕ → ℕ → Option ℤ
of_one_and_local used local states =
    winning two_styles (uses_on 1 (on Main used) ∷ []) (local_opa (on Main local) 30 ∷ []) Main states BgOpa

-- one style is used for these states, and after it the other for those
abbrev of_two_uses : ℕ → ℕ → ℕ → ℕ → Option ℤ
of_two_uses first its second others =
    winning two_styles (uses_on first (on Main its) ∷ uses_on second (on Main others) ∷ []) []
    Main pressed BgOpa

pub record CascadesAreWorked : Type 0 where
  -- greater states win, also of a style over a local entry
  pub pressed_style_over_checked_local : of_one_and_local pressed checked 33 ≡ Some (pos 10)
  -- released, the style does not apply
  pub checked_local_after_release : of_one_and_local pressed checked checked ≡ Some (pos 30)
  -- of equal states the local entry wins
  pub local_over_style : of_one_and_local pressed pressed pressed ≡ Some (pos 30)
  -- of two styles that are used for equal states the later one wins
  pub later_use : of_two_uses 2 0 1 0 ≡ Some (pos 10)
  -- of unequal states the order of adding does not count
  pub earlier_use_for_greater_states : of_two_uses 2 pressed 1 0 ≡ Some (pos 20)
  -- an entry for two states does not apply in one of them
  pub one_state_of_two : winning two_styles [] (local_opa (on Main 33) 30 ∷ []) Main pressed BgOpa ≡ None
  -- nor for another part, nor for another property, nor does a style that is not there
  pub another_part : winning two_styles (uses_on 1 (on Knob 0) ∷ []) [] Main pressed BgOpa ≡ None
  pub another_property : winning two_styles (uses_on 1 (on Main 0) ∷ []) [] Main pressed BgColor ≡ None
  pub no_such_style : winning two_styles (uses_on 3 (on Main 0) ∷ []) [] Main pressed BgOpa ≡ None

abbrev white : ℤ
white = pos 16777215

abbrev black : ℤ
black = pos 0

abbrev red : ℤ
red = pos 16711680

abbrev green : ℤ
green = pos 65280

abbrev plain : Kind → ℕ → Styled
plain kind states = record { kind = kind; states = states; uses = []; locals = [] }

-- an object in some states, with a property set locally for its main part
abbrev with_set : ℕ → Prop → ℕ → ℤ → Styled
with_set states prop its value = record {
  kind = Obj;
  states = states;
  uses = [];
  locals = record { part = Main; prop = prop; states = its; value = value } ∷ [];
}

-- the text of a part of an object in some states, below one in others whose text is red where it is pressed
abbrev text_below : ℕ → ℕ → Part → ℤ
text_below states its part =
    value_on [] (plain Obj states ∷ with_set its TextColor pressed red ∷ []) part TextColor

pub record ValuesAreWorked : Type 0 where
  -- an inherited value is given by the states of the object that has it, not of the one below
  pub pressed_above : text_below 0 pressed Main ≡ red
  pub pressed_below : text_below pressed 0 Main ≡ black
  -- a part inherits as the main part does
  pub part_pressed_above : text_below 0 pressed Knob ≡ red
  pub part_pressed_below : text_below pressed 0 Knob ≡ black
  -- and what is set for the main part comes first
  pub part_of_main :
      value_on [] (with_set 0 TextColor 0 green ∷ with_set 0 TextColor 0 red ∷ []) Knob TextColor ≡ green
  -- the nearest above gives the value
  pub nearest :
      value_on []
      (plain Obj 0 ∷ with_set 0 TextColor 0 green ∷ with_set 0 TextColor 0 red ∷ []) Main TextColor
      ≡ green
  -- a fill is not inherited
  pub fill_above : value_on [] (plain Obj 0 ∷ with_set 0 BgColor 0 red ∷ []) Main BgColor ≡ white
  -- a screen is filled, what stands on it is not, nor is another part of it
  pub screen : value_on [] (plain Screen 0 ∷ []) Main BgOpa ≡ pos 255
  pub on_screen : value_on [] (plain Obj 0 ∷ plain Screen 0 ∷ []) Main BgOpa ≡ pos 0
  pub part_of_screen : value_on [] (plain Screen 0 ∷ []) Knob BgOpa ≡ pos 0
