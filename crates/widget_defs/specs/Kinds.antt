-- What a kind of object is: its row, and what is read off it.
use Rattle.std.specs.Prelude.{ℕ, Bool, true, false}
use Rattle.gui_base.specs.declared.words.Flow.{Flow}
use Rattle.gui_base.specs.declared.words.Kind.{Kind}
use Rattle.gui_base.specs.declared.words.Kind.TheVariants as kind
use Rattle.gui_base.specs.declared.words.Length.{Length}
use Rattle.widget_defs.specs.declared.kinds.KindFacts.{KindFacts}
use Rattle.widget_defs.specs.declared.kinds.Shown.{Shown}
use Rattle.widget_defs.specs.declared.kinds.Shown.TheVariants as shown
use Rattle.widget_defs.specs.declared.kinds.TheConstants.{SCREEN, LAYER, OBJ, LABEL, BUTTON, IMAGE, BAR}
use Rattle.widget_defs.specs.declared.kinds.TheConstants.{SLIDER, CHECKBOX, LIST}

-- the row of each kind, as the table of the code has it
abbrev pub facts : Kind → KindFacts
facts kind.Screen = SCREEN
facts kind.Layer = LAYER
facts kind.Obj = OBJ
facts kind.Label = LABEL
facts kind.Button = BUTTON
facts kind.Image = IMAGE
facts kind.Bar = BAR
facts kind.Slider = SLIDER
facts kind.Checkbox = CHECKBOX
facts kind.List = LIST

-- the flags that are on at a new object
abbrev pub first_flags : Kind → ℕ
first_flags kind = (facts kind).flags

-- the wanted width of a new object; that of a root is not asked
abbrev pub first_width : Kind → Length
first_width kind = (facts kind).width

-- the wanted height of a new object; that of a root is not asked
abbrev pub first_height : Kind → Length
first_height kind = (facts kind).height

-- the flow of a new object
abbrev pub first_flow : Kind → Flow
first_flow kind = (facts kind).flow

-- what it paints in its content area
abbrev pub shows : Kind → Shown
shows kind = (facts kind).shows

abbrev pub is_something : Shown → Bool
is_something shown.Nothing = false
is_something shown.Text = true
is_something shown.Picture = true
is_something shown.Share = true
is_something shown.ShareAndKnob = true
is_something shown.BoxAndText = true

-- the parts that are painted there
abbrev pub has_indicator : Shown → Bool
has_indicator shown.Nothing = false
has_indicator shown.Text = false
has_indicator shown.Picture = false
has_indicator shown.Share = true
has_indicator shown.ShareAndKnob = true
has_indicator shown.BoxAndText = true

abbrev pub has_knob : Shown → Bool
has_knob shown.Nothing = false
has_knob shown.Text = false
has_knob shown.Picture = false
has_knob shown.Share = false
has_knob shown.ShareAndKnob = true
has_knob shown.BoxAndText = false

-- whether it is of a size by itself
abbrev pub has_size : Shown → Bool
has_size shown.Nothing = false
has_size shown.Text = true
has_size shown.Picture = true
has_size shown.Share = false
has_size shown.ShareAndKnob = false
has_size shown.BoxAndText = true
