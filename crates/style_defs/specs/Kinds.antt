-- What each kind of object sets by itself.
use Rattle.std.specs.Prelude.{ℕ, ℤ, List, [], map, unwrap_or}
use Rattle.std.specs.declared.option.Option.{Option}
use Rattle.gui_base.specs.declared.words.Kind.{Kind}
use Rattle.gui_base.specs.declared.words.Kind.TheVariants as kind
use Rattle.style_defs.specs.declared.kinds.TheConstants.{SCREEN, BUTTON, BAR, SLIDER, CHECKBOX, LIST, SCROLLBAR}
use Rattle.gui_base.specs.declared.words.Part.{Part}
use Rattle.gui_base.specs.declared.words.Part.TheVariants.{Scrollbar}
use Rattle.gui_base.specs.declared.props.Prop.{Prop}
use Rattle.style_defs.specs.declared.Entry.{Entry}
use Rattle.style_defs.specs.Cascade.{winning}
use Rattle.gui_base.specs.Props.{default_of}

-- a part, the states that it is for, a property and its value
abbrev pub KindRow : Type 0
KindRow = Part × ℕ × Prop × ℤ

-- a row as an entry that is set locally
abbrev pub entry_in : KindRow → Entry
entry_in row = record { part = row.0; prop = row.2; states = row.1; value = row.3 }

-- what each kind sets for its parts beside the bars
abbrev pub kind_rows : Kind → List KindRow
kind_rows kind.Screen = SCREEN
kind_rows kind.Layer = []
kind_rows kind.Obj = []
kind_rows kind.Label = []
kind_rows kind.Button = BUTTON
kind_rows kind.Image = []
kind_rows kind.Bar = BAR
kind_rows kind.Slider = SLIDER
kind_rows kind.Checkbox = CHECKBOX
kind_rows kind.List = LIST

-- what a kind sets for a part: all have the same bars
abbrev pub part_rows : Kind → Part → List KindRow
part_rows kind Scrollbar = SCROLLBAR
part_rows kind part = kind_rows kind

-- of what a kind sets, what wins for a part in these states
abbrev pub kind_value : Kind → Part → ℕ → Prop → Option ℤ
kind_value kind part states prop = winning [] [] (map entry_in (part_rows kind part)) part states prop

-- what a part has where nothing is set and nothing is inherited
abbrev pub default_in : Kind → Part → ℕ → Prop → ℤ
default_in kind part states prop = unwrap_or (kind_value kind part states prop) (default_of prop)
