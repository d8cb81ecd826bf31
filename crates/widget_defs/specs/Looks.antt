-- What the items of an object are made of: its kind, the values of its parts, and what it shows.
use Rattle.std.specs.Prelude.{◌≡◌, ℕ, Bool, true, ◌==◌, if◌then◌else◌, List, slice_index_or, ℤ, pos, ◌≤ℤ◌, ◌<ℤ◌}
use Rattle.std.specs.declared.option.Option.{Option}
use Rattle.std.specs.Int.RustNames.{unsigned_abs}
use Rattle.gui_base.specs.declared.words.Kind.{Kind}
use Rattle.gui_base.specs.declared.words.TextAlign.{TextAlign as Alignment}
use Rattle.gui_base.specs.declared.words.TextAlign.TheVariants.{Left, Center, Right}
use Rattle.gui_base.specs.declared.props.Prop.{Prop}
use Rattle.gui_base.specs.declared.props.Prop.TheVariants as prop
use Rattle.gui_base.specs.Props.{is_value}
use Rattle.text_defs.specs.declared.TextLook.{TextLook}
use Rattle.text_defs.specs.Face.{Face}
use Rattle.text_defs.specs.Lines.{LineSetting}
use Rattle.widget_defs.specs.declared.ImageLook.{ImageLook}
use Rattle.widget_defs.specs.declared.Values.{Values}

-- the place of a property among all
abbrev pub prop_place : Prop → ℕ
prop_place prop.BgColor = 0
prop_place prop.BgOpa = 1
prop_place prop.BorderColor = 2
prop_place prop.BorderOpa = 3
prop_place prop.BorderWidth = 4
prop_place prop.PadTop = 5
prop_place prop.PadBottom = 6
prop_place prop.PadLeft = 7
prop_place prop.PadRight = 8
prop_place prop.PadRow = 9
prop_place prop.PadColumn = 10
prop_place prop.ImgRecolor = 11
prop_place prop.ImgOpa = 12
prop_place prop.TextColor = 13
prop_place prop.TextOpa = 14
prop_place prop.TextFont = 15
prop_place prop.TextAlign = 16
prop_place prop.TextLetterSpace = 17
prop_place prop.TextLineSpace = 18

-- the value of a property among those of all
abbrev pub value_in : Values → Prop → ℤ
value_in values prop = slice_index_or values.0 (prop_place prop) (pos 0)

-- the value of each property of a part
abbrev pub PartValues : Type 0
PartValues = Prop → ℤ

-- each value is one of its property's
abbrev pub AreValues : PartValues → Type 0
AreValues values = (prop : Prop) → is_value prop (values prop) ≡ true

-- all of an object that its items go by, with its styles looked up
pub record Look : Type 0 where
  pub kind : Kind
  pub main : PartValues
  pub scrollbar : PartValues
  pub indicator : PartValues
  pub knob : PartValues
  -- the characters of its text, and the font of its main part
  pub text : List ℕ
  pub face : Face
  -- its value and the range that this lies in
  pub value : ℤ
  pub min : ℤ
  pub max : ℤ
  pub image : Option ImageLook
  -- whether it is scrollable, how far its children reach out of its content area across and down, and how far
  -- it moves them
  pub scrollable : Bool
  pub reach : ℕ × ℕ
  pub offset : ℕ × ℕ

-- the value lies in its range, which has two ends
pub record IsRanged (look : Look) : Type 0 where
  pub ends : look.min <ℤ look.max
  pub low : look.min ≤ℤ look.value
  pub high : look.value ≤ℤ look.max

-- a value that is not below 0
abbrev pub number_of : ℤ → ℕ
number_of value = unsigned_abs value

-- an alignment by its number
abbrev pub align_of : ℕ → Alignment
align_of n = if n == 0 then Left else if n == 1 then Center else Right

-- how the text of an object is set
abbrev pub text_look : PartValues → TextLook
text_look values =
    record {
      font = number_of (values prop.TextFont);
      letter = number_of (values prop.TextLetterSpace);
      line = number_of (values prop.TextLineSpace);
      align = align_of (number_of (values prop.TextAlign));
    }

-- the same, with its lines at the left
abbrev pub left_look : PartValues → TextLook
left_look values = record (text_look values) { align = Left }

-- the setting of its lines, in so many pixels at most
abbrev pub text_setting : Look → Option ℕ → LineSetting
text_setting look most =
    record { face = look.face; letter = number_of (look.main prop.TextLetterSpace); most = most }
