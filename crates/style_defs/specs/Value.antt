-- The value of a property: what is set at an object and wins, else what it inherits, else a default.
use Rattle.std.specs.Prelude.{ℕ, ℤ, if◌then◌else◌, List, [], ◌∷◌, None, unwrap_or}
use Rattle.std.specs.declared.option.Option.{Option}
use Rattle.std.specs.Option.{option_or}
use Rattle.gui_base.specs.declared.words.Kind.{Kind}
use Rattle.gui_base.specs.declared.words.Part.{Part}
use Rattle.gui_base.specs.declared.words.Part.TheVariants.{Main}
use Rattle.gui_base.specs.declared.props.Prop.{Prop}
use Rattle.style_defs.specs.declared.Entry.{Entry}
use Rattle.style_defs.specs.declared.Use.{Use}
use Rattle.style_defs.specs.Cascade.{Style, winning}
use Rattle.style_defs.specs.Kinds.{default_in}
use Rattle.gui_base.specs.Props.{default_of, inherits}

-- what styles see of an object
pub record Styled : Type 0 where
  pub kind : Kind
  -- the states that it is in
  pub states : ℕ
  -- the styles that it uses, in the order of adding, and what is set locally
  pub uses : List Use
  pub locals : List Entry

-- what wins for a part of an object
abbrev pub won : List Style → Styled → Part → Prop → Option ℤ
won styles object part prop = winning styles object.uses object.locals part object.states prop

-- In a list of objects each stands below the next.

-- what wins for the main part of the first object, else of the next, and so on
abbrev pub inherited : List Style → List Styled → Prop → Option ℤ
inherited styles [] prop = None
inherited styles (object ∷ above) prop = option_or (won styles object Main prop) (inherited styles above prop)

-- what an object has that stands below others
abbrev pub given : List Style → Styled → List Styled → Part → Prop → Option ℤ
given styles object above part prop =
    option_or (won styles object part prop)
    (if inherits prop then inherited styles (object ∷ above) prop else None)

-- the value of a property of a part of the first object
abbrev pub value_on : List Style → List Styled → Part → Prop → ℤ
value_on styles [] part prop = default_of prop
value_on styles (object ∷ above) part prop =
    unwrap_or (given styles object above part prop) (default_in object.kind part object.states prop)
